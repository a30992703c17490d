use Rattle.std.proofs.Common.{Result, Some, ap, ◌∙◌}
use Rattle.std.specs.Arc.{arc_value}
use Rattle.volume_model.specs.Common.{Plan}
use Rattle.volume_model.specs.Node.{Node}
use Rattle.volume_model.specs.declared.fault.Fault.{Fault}
use Rattle.plan.specs.Common.{checked_model}
use Rattle.segment_core.specs.Snapshot.{node_in, resumed}
use Rattle.volume_c.specs.View.{View, seen}
use Rattle.volume_c.specs.Calls.{of_plan, with_value}
use Rattle.volume_c.specs.Segments.{node_made, resumed_step}
use Rattle.volume_c.proofs.Made.{made, segment-held, unmade}
use Rattle.volume_c.proofs.segment_calls.volume_segment_resume.Goals as goal

pub returns-in-Err-plan_in-clause-makes : goal.returns-in-Err-plan_in-clause-makes
returns-in-Err-plan_in-clause-makes c = unmade (resumed_step c.args.bytes.now c.args.group c.args.member (seen c.args.plan.now.seal.held)) c.in-Err-plan_in.status c.args.out.now.seal.held c.in-Err-plan_in.ensures.err

pub returns-in-Ok-resumed-clause-makes : goal.returns-in-Ok-resumed-clause-makes
returns-in-Ok-resumed-clause-makes c =
    let plan : Plan = checked_model (arc_value c.in-Ok-plan_in.plan) in
    let view : View = seen c.args.plan.now.seal.held in
    let saved : Node = node_in c.in-Ok.snapshot in
    let group = c.args.group in
    let member = c.args.member in
    made (resumed_step c.args.bytes.now group member view) c.hold.result c.args.out.now.seal.held c.hold.new.out.seal.held c.of.result c.is_live.result c.is_live.ensures c.if-is_live.false c.hold.ensures.ok c.hold.ensures.err
    (ap (λ (r : Result Node Fault). with_value r (λ node. of_plan (λ p. node_made p group member (resumed p group member node)) view)) c.in-Ok.ensures
    ∙ ap (of_plan (λ p. node_made p group member (resumed p group member saved))) c.in-Ok-plan_in.ensures.plan
    ∙ ap (λ (r : Result Node Fault). Some (node_made plan group member r)) c.in-Ok-resumed.ensures.node
    ∙ ap (λ r. Some r) (segment-held c.of.result c.in-Ok-resumed.segment plan group member c.of.ensures.actor c.of.ensures.nothing c.in-Ok-resumed.ensures.actor))
