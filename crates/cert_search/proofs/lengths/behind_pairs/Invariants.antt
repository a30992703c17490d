use Rattle.std.proofs.Common.{◌≡◌, ◌-◌, drop}
use Rattle.cert_search.specs.Lengths.{pairs_length}
use Rattle.cert_search.proofs.lengths.behind_pairs.Given as goal

-- the room behind those before, less the lengths of those that are left
abbrev pub invariant-loop-pair : goal.invariant-loop-pair
invariant-loop-pair l = l.left - pairs_length (drop l.pair-index l.pairs) ≡ l.room - pairs_length l.pairs
