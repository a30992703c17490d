use Rattle.std.proofs.Common.{◌≡◌, drop}
use Rattle.quorum_expr.specs.Placed.{among}
use Rattle.quorum_expr.proofs.on_tape.is_among.Given as goal

abbrev pub invariant-loop-other : goal.invariant-loop-other
invariant-loop-other l = among l.key (drop l.other-index l.seen) ≡ among l.key l.seen
