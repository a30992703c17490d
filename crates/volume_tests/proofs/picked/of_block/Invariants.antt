use Rattle.std.proofs.Common.{◌≡◌, length, All}
use Rattle.redo_record.specs.Common.{left_of, shared_redo}
use Rattle.volume_tests.proofs.picked.of_block.Given as goal

abbrev pub invariant-loop-packet : goal.invariant-loop-packet
invariant-loop-packet l = All (λ packet. (shared_redo packet).block ≡ l.block) l.found.items

abbrev pub decreases-loop-packet : goal.decreases-loop-packet
decreases-loop-packet l = length (left_of l.left)
