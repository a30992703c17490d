use Rattle.std.proofs.Common.{subst}
use Rattle.std.specs.Arc.{arc_value}
use Rattle.plan.specs.declared.checked.CheckedPlan.{CheckedPlan}
use Rattle.plan.specs.Common.{checked_model}
use Rattle.world.specs.Events.{ordered_events}
use Rattle.world.specs.Outcomes.{PromisesRuns}
use Rattle.world.proofs.Returned.{returned_of}
use Rattle.world.proofs.running.run_orders.Goals as goal
use Rattle.std.proofs.Common.{rules}

pub returns-clause-promises : goal.returns-clause-promises
returns-clause-promises c = search (rules, c.deref.ensures, c.promised.ensures)

pub returns-clause-returned : goal.returns-clause-returned
returns-clause-returned c =
    returned_of (checked_model (arc_value c.args.plan.now)) (ordered_events (checked_model (arc_value c.args.plan.now)) c.args.orders.items) (subst (λ (p : CheckedPlan). PromisesRuns (checked_model p)) c.deref.ensures c.promised.ensures) c.outcome_of_orders.result c.outcome_of_orders.ensures.is_run
