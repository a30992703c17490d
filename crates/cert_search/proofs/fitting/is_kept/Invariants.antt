use Rattle.std.proofs.Common.{◌≡◌, drop, nat_le}
use Rattle.cert_search.specs.Kept.{length_up_to}
use Rattle.cert_search.proofs.fitting.is_kept.Given as goal

-- those that are left have what room is left where all have it
abbrev pub invariant-loop-k : goal.invariant-loop-k
invariant-loop-k l = nat_le (length_up_to l.other l.at l.k (drop l.k l.lengths)) l.left ≡ nat_le (length_up_to l.other l.at 0 l.lengths) l.room
