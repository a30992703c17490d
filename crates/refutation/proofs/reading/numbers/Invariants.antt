use Rattle.std.proofs.Common.{◌≡◌}
use Rattle.serde_json.specs.Events.{items_len}
use Rattle.refutation.specs.Reading.{numbers_of}
use Rattle.refutation.proofs.Loop.{with_front}
use Rattle.refutation.proofs.reading.numbers.Given as goal

abbrev pub invariant-loop-value : goal.invariant-loop-value
invariant-loop-value g l = with_front l.list.items (numbers_of (g.N.Node.left l.rest)) ≡ numbers_of (g.N.Node.left l.initial.rest)

abbrev pub decreases-loop-value : goal.decreases-loop-value
decreases-loop-value g l = items_len (g.N.Node.left l.rest)
