use Rattle.volume_model.specs.Common.{later_group}
use Rattle.writer_core.proofs.Placing.{moved-all}
use Rattle.writer_core.proofs.places.follow.Goals as goal

pub returns-clause-moved : goal.returns-clause-moved
returns-clause-moved c = moved-all later_group c.loop-group.group_states c.args.places.now c.loop-group.group _ c.loop-group-test.false c.loop-group.invariant
