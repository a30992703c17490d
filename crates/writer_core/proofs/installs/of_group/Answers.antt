use Rattle.std.proofs.Common.{List, [], ap}
use Rattle.volume_model.specs.Common.{Redo, added}
use Rattle.redo_record.proofs.Held.{united-copied}
use Rattle.writer_core.proofs.Joined.{of_group-all}
use Rattle.writer_core.proofs.installs.of_group.Goals as goal
use Rattle.std.proofs.lemmas.Grind.{common_steps}
use Rattle.std.proofs.Common.{arith}

pub returns-then-is_of : goal.returns-then-is_of
returns-then-is_of c = grind (arith, common_steps, c.is_of.ensures, c.if-is_of.true, c.clone.ensures.cases, united-copied, of_group-all)

pub loop-packet-init : goal.loop-packet-init
loop-packet-init c = ([], ap (λ (rs : List Redo). added rs []) c.records-left.ensures.records, c.new-set.ensures)

pub loop-packet-preserved-in_ok-insert : goal.loop-packet-preserved-in_ok-insert
loop-packet-preserved-in_ok-insert c = grind (arith, common_steps)

pub loop-packet-preserved : goal.loop-packet-preserved
loop-packet-preserved c = grind (arith, common_steps)

pub returns : goal.returns
returns c = grind (arith, common_steps)
