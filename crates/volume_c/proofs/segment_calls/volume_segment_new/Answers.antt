use Rattle.std.proofs.Common.{Result, Some, ap, ◌∙◌}
use Rattle.std.specs.Arc.{arc_value}
use Rattle.volume_model.specs.Common.{Plan}
use Rattle.volume_model.specs.Node.{Node}
use Rattle.volume_model.specs.declared.fault.Fault.{Fault}
use Rattle.plan.specs.Common.{checked_model}
use Rattle.volume_c.specs.View.{seen}
use Rattle.volume_c.specs.Segments.{born_step, node_made}
use Rattle.volume_c.proofs.Made.{made, segment-held, unmade}
use Rattle.volume_c.proofs.segment_calls.volume_segment_new.Goals as goal

pub returns-in-Err-clause-makes : goal.returns-in-Err-clause-makes
returns-in-Err-clause-makes c = unmade (born_step c.args.group c.args.member (seen c.args.plan.now.seal.held)) c.in-Err.status c.args.out.now.seal.held c.in-Err.ensures.err

pub returns-in-Ok-new-clause-makes : goal.returns-in-Ok-new-clause-makes
returns-in-Ok-new-clause-makes c =
    let plan : Plan = checked_model (arc_value c.in-Ok.plan) in
    made (born_step c.args.group c.args.member (seen c.args.plan.now.seal.held)) c.hold.result c.args.out.now.seal.held c.hold.new.out.seal.held c.of.result c.is_live.result c.is_live.ensures c.if-is_live.false c.hold.ensures.ok c.hold.ensures.err
    (ap (born_step c.args.group c.args.member) c.in-Ok.ensures.plan ∙ ap (λ (r : Result Node Fault). Some (node_made plan c.args.group c.args.member r)) c.in-Ok-new.ensures.born
    ∙ ap (λ r. Some r) (segment-held c.of.result c.in-Ok-new.segment plan c.args.group c.args.member c.of.ensures.actor c.of.ensures.nothing c.in-Ok-new.ensures.actor))
