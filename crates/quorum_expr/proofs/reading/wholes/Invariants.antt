use Rattle.std.proofs.Common.{◌≡◌, Ok, ◌++◌}
use Rattle.serde_json.specs.Events.{items_len}
use Rattle.volume_model.specs.Common.{◌>>=◌}
use Rattle.quorum_expr.specs.Reading.{wholes_of}
use Rattle.quorum_expr.proofs.reading.wholes.Given as goal

abbrev pub invariant-numbers : goal.invariant-numbers
invariant-numbers g l = (wholes_of (g.N.Node.left l.rest) >>= λ ns. Ok (l.numbers.items ++ ns)) ≡ wholes_of (g.N.Node.left l.initial.rest)

abbrev pub decreases-numbers : goal.decreases-numbers
decreases-numbers g l = items_len (g.N.Node.left l.rest)
