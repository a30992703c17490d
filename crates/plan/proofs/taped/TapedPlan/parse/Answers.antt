use Rattle.std.proofs.Common.{◌≡◌, Err, IfErr, IfOk, List, subst, ℕ, arith, ◌≢◌}
use Rattle.volume_model.specs.declared.fault.Fault.TheVariants.{NoMemory}
use Rattle.plan.specs.declared.fault.PlanFault.TheVariants.{Text}
use Rattle.plan.specs.PlanText.{plan_of}
use Rattle.plan.proofs.Text.{text-bad, text-long}
use Rattle.plan.proofs.taped.TapedPlan.parse.Goals as goal

pub returns-then-text-clause-fault : goal.returns-then-text-clause-fault
returns-then-text-clause-fault c = λ other. text-long c.args.text.now (omega arith)

pub returns-in-Ok-clause-text : goal.returns-in-Ok-clause-text
returns-in-Ok-clause-text c = subst (λ t. IfOk c.tape_of.result (λ (taped : List ℕ). taped ≡ t)) c.in-Ok.ensures.0 c.tape_of.ensures.text

pub returns-in-Ok-clause-fault : goal.returns-in-Ok-clause-fault
returns-in-Ok-clause-fault c = subst (λ t. IfErr c.tape_of.result (λ fault. fault ≢ Text NoMemory → plan_of t ≡ Err fault)) c.in-Ok.ensures.0 c.tape_of.ensures.fault

pub returns-in-Err-clause-fault : goal.returns-in-Err-clause-fault
returns-in-Err-clause-fault c = λ other. text-bad c.args.text.now (omega arith) c.in-Err.ensures
