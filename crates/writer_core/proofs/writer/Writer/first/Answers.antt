use Rattle.volume_model.specs.Common.{group_point_of}
use Rattle.writer_core.specs.Groups.{groups_in}
use Rattle.std.proofs.Common.{◌∙◌, Ok, length, ap}
use Rattle.writer_core.specs.Log.{packets_in}
use Rattle.writer_core.proofs.Clients.{same-parts, begun-is, set-none}
use Rattle.writer_core.proofs.Covering.{covers-none}
use Rattle.writer_core.proofs.Joined.{no-packets}
use Rattle.writer_core.proofs.writer.Writer.first.Goals as goal
use Rattle.std.proofs.lemmas.Grind.{common_steps}
use Rattle.std.proofs.Common.{arith}

pub invariant_of-result-clause-covers : goal.invariant_of-result-clause-covers
invariant_of-result-clause-covers c = covers-none c.none.result (group_point_of (groups_in c.in_ok-at_roots.field-0)) (packets_in c.begin.result) c.none.ensures (c.begin.ensures.packets ∙ no-packets c.new.result c.new.ensures)

pub returns-clause-client : goal.returns-clause-client
returns-clause-client c = grind (arith, common_steps, c.new.ensures, c.in_ok-at_roots.ensures.groups, c.in_ok-birth.ensures, c.begin.ensures.found, c.begin.ensures.packets, set-none, Ok, same-parts, begun-is)

pub invariant_of-result-clause-lasts : goal.invariant_of-result-clause-lasts
invariant_of-result-clause-lasts c = c.new-2.ensures (packets_in c.begin.result) (ap length (c.begin.ensures.packets ∙ no-packets c.new.result c.new.ensures))
