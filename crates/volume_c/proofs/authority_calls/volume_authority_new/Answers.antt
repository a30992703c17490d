use Rattle.std.proofs.Common.{Result, Some, ap, ◌∙◌}
use Rattle.std.specs.Arc.{arc_value}
use Rattle.volume_model.specs.Common.{Plan, Authority}
use Rattle.volume_model.specs.declared.fault.Fault.{Fault}
use Rattle.plan.specs.Common.{checked_model}
use Rattle.volume_c.specs.View.{seen}
use Rattle.volume_c.specs.Authorities.{authority_made, opening_step}
use Rattle.volume_c.proofs.Made.{authority-held, made, unmade}
use Rattle.volume_c.proofs.authority_calls.volume_authority_new.Goals as goal

pub returns-in-Err-clause-makes : goal.returns-in-Err-clause-makes
returns-in-Err-clause-makes c = unmade (opening_step (seen c.args.plan.now.seal.held)) c.in-Err.status c.args.out.now.seal.held c.in-Err.ensures.err

pub returns-in-Ok-new-clause-makes : goal.returns-in-Ok-new-clause-makes
returns-in-Ok-new-clause-makes c =
    let plan : Plan = checked_model (arc_value c.in-Ok.plan) in
    made (opening_step (seen c.args.plan.now.seal.held)) c.hold.result c.args.out.now.seal.held c.hold.new.out.seal.held c.of.result c.is_live.result c.is_live.ensures c.if-is_live.false c.hold.ensures.ok c.hold.ensures.err
    (ap opening_step c.in-Ok.ensures.plan ∙ ap (λ (r : Result Authority Fault). Some (authority_made plan r)) c.in-Ok-new.ensures.authority
    ∙ ap (λ r. Some r) (authority-held c.of.result c.in-Ok-new.authority plan c.of.ensures.actor c.of.ensures.nothing c.in-Ok-new.ensures.plan))
