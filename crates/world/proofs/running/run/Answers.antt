use Rattle.std.proofs.Common.{subst}
use Rattle.std.specs.Arc.{arc_value}
use Rattle.plan.specs.declared.checked.CheckedPlan.{CheckedPlan}
use Rattle.plan.specs.Common.{checked_model}
use Rattle.world.specs.Events.{events_of}
use Rattle.world.specs.Outcomes.{PromisesRuns}
use Rattle.world.proofs.Returned.{returned_of}
use Rattle.world.proofs.running.run.Goals as goal
use Rattle.std.proofs.Common.{rules}

pub returns-clause-promises : goal.returns-clause-promises
returns-clause-promises c = search (rules, c.deref.ensures, c.promised.ensures)

pub returns-clause-returned : goal.returns-clause-returned
returns-clause-returned c =
    returned_of (checked_model (arc_value c.args.plan.now)) (events_of c.args.events.now) (subst (λ (p : CheckedPlan). PromisesRuns (checked_model p)) c.deref.ensures c.promised.ensures) c.outcome_of.result c.outcome_of.ensures.is_run
