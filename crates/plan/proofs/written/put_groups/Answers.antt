use Rattle.std.proofs.Common.{Ok, arith}
use Rattle.plan.proofs.Made.{makes_more, makes_done, made-group, values-after}
use Rattle.plan.proofs.Putting.{then_put}
use Rattle.plan.proofs.written.put_groups.Goals as goal
use Rattle.std.proofs.lemmas.Grind.{common_steps}
use Rattle.std.proofs.Common.{rules}

pub groups-init : goal.groups-init
groups-init c = grind (arith, common_steps)

pub groups-preserved : goal.groups-preserved
groups-preserved c = grind (arith, common_steps, c.in_ok-put_group.ensures, c.count_items.ensures, c.in-Ok.ensures.few, c.after-left.ensures, c.groups.invariant, c.in-Some.ensures, c.in-Ok.ensures.read, values-after, makes_more, made-group, Ok)

pub returns : goal.returns
returns c = search (rules, c.close_array.ensures, c.groups.invariant, c.in_default.ensures, then_put, makes_done)
