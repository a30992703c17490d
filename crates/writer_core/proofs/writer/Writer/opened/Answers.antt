use Rattle.volume_model.specs.Common.{group_point_of}
use Rattle.writer_core.specs.Groups.{groups_in, group_states_plan}
use Rattle.writer_core.specs.Log.{packets_in}
use Rattle.writer_core.proofs.Clients.{same-parts, begun-is}
use Rattle.writer_core.proofs.Raising.{raised_all, joined_all}
use Rattle.writer_core.proofs.writer.Writer.opened.Goals as goal
use Rattle.std.proofs.lemmas.Grind.{common_steps}
use Rattle.std.proofs.Common.{arith}

pub follow-requires : goal.follow-requires
follow-requires c = c.none-durability.ensures (group_point_of (groups_in c.raise.new.self)) (packets_in c.begin-log.result)

pub invariant_of-result-clause-raised : goal.invariant_of-result-clause-raised
invariant_of-result-clause-raised c = raised_all (group_states_plan c.args.group_states) _ (groups_in c.args.group_states) _ c.raise.ensures.plan c.raise.ensures.groups

pub invariant_of-result-clause-joined : goal.invariant_of-result-clause-joined
invariant_of-result-clause-joined c = joined_all (group_states_plan c.args.group_states) _ (groups_in c.args.group_states) _ c.raise.ensures.plan c.raise.ensures.groups

pub returns-clause-client : goal.returns-clause-client
returns-clause-client c = grind (arith, common_steps, c.raise.ensures.groups, c.begin-log.ensures.found, c.begin-log.ensures.packets, same-parts, begun-is)
