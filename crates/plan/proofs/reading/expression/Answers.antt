use Rattle.std.proofs.Common.{◌≡◌, ◌≢◌, ℕ, Result, Err, refl, ap}
use Rattle.volume_model.specs.declared.fault.Fault.{Fault}
use Rattle.volume_model.specs.declared.fault.Fault.TheVariants.{NoMemory}
use Rattle.volume_model.specs.Common.{Fails, Formula}
use Rattle.quorum_expr.specs.Common.{formula_of}
use Rattle.plan.specs.declared.fault.Quorum.{Quorum}
use Rattle.plan.specs.declared.fault.PlanFault.TheVariants.{Text}
use Rattle.plan.specs.PlanText.{expression_error, in_quorum}
use Rattle.plan.proofs.OwnMembers.{own-read}
use Rattle.plan.proofs.reading.expression.Goals as goal
use Rattle.std.proofs.lemmas.Grind.{common_steps}
use Rattle.std.proofs.Common.{arith}

in_quorum-fails : (g c : ℕ) (quorum : Quorum) (fault : Fault) (r : Result Formula Fault) → Fails fault r → expression_error g c quorum fault ≢ Text NoMemory → in_quorum g c quorum r ≡ Err (expression_error g c quorum fault)
in_quorum-fails g c quorum NoMemory r h other = absurd (other refl)
in_quorum-fails g c quorum fault r h other = ap (in_quorum g c quorum) h

pub returns-in-Ok-clause-own : goal.returns-in-Ok-clause-own
returns-in-Ok-clause-own g c = own-read c.args.lists.now c.requires (g.N.Node.means c.args.value.now) (formula_of c.in-Ok.expr) c.in-Ok.ensures.read

pub returns-in-Err-clause-read : goal.returns-in-Err-clause-read
returns-in-Err-clause-read g c = grind (arith, common_steps, c.expression_error.ensures, c.in-Err.ensures.read, in_quorum-fails)
