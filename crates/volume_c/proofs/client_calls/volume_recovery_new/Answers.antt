use Rattle.std.proofs.Common.{Result, Some, ap, ◌∙◌}
use Rattle.std.specs.Arc.{arc_value}
use Rattle.volume_model.specs.Common.{Plan}
use Rattle.volume_model.specs.Message as model
use Rattle.volume_model.specs.declared.fault.Fault.{Fault}
use Rattle.plan.specs.Common.{checked_model}
use Rattle.wire.specs.Common.{message_of}
use Rattle.volume_c.specs.View.{View, seen}
use Rattle.volume_c.specs.Calls.{of_plan, with_value}
use Rattle.volume_c.specs.Clients.{birth_in, birth_step}
use Rattle.volume_c.proofs.Made.{made, refused, unmade}
use Rattle.volume_c.proofs.client_calls.volume_recovery_new.Goals as goal

pub returns-in-Err-plan_in-clause-makes : goal.returns-in-Err-plan_in-clause-makes
returns-in-Err-plan_in-clause-makes c = unmade (birth_step c.args.view.now (seen c.args.plan.now.seal.held)) c.in-Err-plan_in.status c.args.out.now.seal.held c.in-Err-plan_in.ensures.err

pub returns-in-Ok-born-clause-makes : goal.returns-in-Ok-born-clause-makes
returns-in-Ok-born-clause-makes c =
    let plan : Plan = checked_model (arc_value c.in-Ok-plan_in.plan) in
    let view : View = seen c.args.plan.now.seal.held in
    let message : model.Message = message_of c.in-Ok.message in
    made (birth_step c.args.view.now view) c.hold.result c.args.out.now.seal.held c.hold.new.out.seal.held c.in-Ok-born.held c.is_live.result c.is_live.ensures c.if-is_live.false c.hold.ensures.ok c.hold.ensures.err
    (ap (λ (r : Result model.Message Fault). with_value r (λ m. of_plan (λ p. birth_in p m) view)) c.in-Ok.ensures.exact
    ∙ ap (of_plan (λ p. birth_in p message)) c.in-Ok-plan_in.ensures.plan
    ∙ ap (λ r. Some r) c.in-Ok-born.ensures)

pub returns-clause-makes : goal.returns-clause-makes
returns-clause-makes c =
    let plan : Plan = checked_model (arc_value c.in-Ok-plan_in.plan) in
    let view : View = seen c.args.plan.now.seal.held in
    let message : model.Message = message_of c.in-Ok.message in
    refused (birth_step c.args.view.now view) (birth_in plan message) c.in-Err-born.fault c.number-in-Err-born.result c.args.out.now.seal.held
    (ap (λ (r : Result model.Message Fault). with_value r (λ m. of_plan (λ p. birth_in p m) view)) c.in-Ok.ensures.exact
    ∙ ap (of_plan (λ p. birth_in p message)) c.in-Ok-plan_in.ensures.plan)
    c.number-in-Err-born.ensures
    c.in-Err-born.ensures
