use Rattle.std.proofs.Common.{Result, Some, ap, ◌∙◌}
use Rattle.std.specs.Arc.{arc_value}
use Rattle.volume_model.specs.Common.{Plan, Authority}
use Rattle.volume_model.specs.declared.fault.Fault.{Fault}
use Rattle.plan.specs.Common.{checked_model}
use Rattle.epochs.specs.Snapshot.{authority_in as snapshot_authority, resumed}
use Rattle.volume_c.specs.View.{View, seen}
use Rattle.volume_c.specs.Calls.{of_plan, with_value}
use Rattle.volume_c.specs.Authorities.{authority_made, resumed_step}
use Rattle.volume_c.proofs.Made.{authority-held, made, unmade}
use Rattle.volume_c.proofs.authority_calls.volume_authority_resume.Goals as goal

pub returns-in-Err-plan_in-clause-makes : goal.returns-in-Err-plan_in-clause-makes
returns-in-Err-plan_in-clause-makes c = unmade (resumed_step c.args.bytes.now (seen c.args.plan.now.seal.held)) c.in-Err-plan_in.status c.args.out.now.seal.held c.in-Err-plan_in.ensures.err

pub returns-in-Ok-resumed-clause-makes : goal.returns-in-Ok-resumed-clause-makes
returns-in-Ok-resumed-clause-makes c =
    let plan : Plan = checked_model (arc_value c.in-Ok-plan_in.plan) in
    let view : View = seen c.args.plan.now.seal.held in
    let saved : Authority = snapshot_authority c.in-Ok.snapshot in
    made (resumed_step c.args.bytes.now view) c.hold.result c.args.out.now.seal.held c.hold.new.out.seal.held c.of.result c.is_live.result c.is_live.ensures c.if-is_live.false c.hold.ensures.ok c.hold.ensures.err
    (ap (λ (r : Result Authority Fault). with_value r (λ authority. of_plan (λ p. authority_made p (resumed p authority)) view)) c.in-Ok.ensures
    ∙ ap (of_plan (λ p. authority_made p (resumed p saved))) c.in-Ok-plan_in.ensures.plan
    ∙ ap (λ (r : Result Authority Fault). Some (authority_made plan r)) c.in-Ok-resumed.ensures.authority
    ∙ ap (λ r. Some r) (authority-held c.of.result c.in-Ok-resumed.authority plan c.of.ensures.actor c.of.ensures.nothing c.in-Ok-resumed.ensures.plan))
