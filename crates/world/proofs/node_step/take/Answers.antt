use Rattle.std.proofs.Common.{◌++◌, List, length, refl, sym, ap, ap₂, ◌∙◌, Ok}
use Rattle.volume_model.specs.Common.{NodeStep}
use Rattle.volume_model.specs.Node.{Node}
use Rattle.wire.specs.declared.message.Message.{Message}
use Rattle.wire.specs.Common.{listed}
use Rattle.segment_core.specs.declared.prepared.Prepared.{Prepared}
use Rattle.segment_core.specs.Prepared.{step_of}
use Rattle.segment_core.specs.Segment.{node_of}
use Rattle.world.proofs.Moving.{made_result}
use Rattle.world.proofs.node_step.take.Goals as goal

pub returns-clause-moves : goal.returns-clause-moves
returns-clause-moves c late =
    let node : Node = node_of c.args.segment.now in
    let kept : List Message = c.args.messages.now.items in
    let prepared : Prepared = c.args.prepared in
    let answers : List Message = listed prepared.answers in
    made_result (λ (step : NodeStep). step.made) (λ (step : NodeStep). step.node) kept c.enter.new.messages.items answers (Ok (step_of prepared node)) (step_of prepared node) (node_of c.apply-made.new.self) c.enter.result
    refl
    refl
    (sym c.apply-made.ensures.node)
    (c.enter.ensures.count ∙ ap length c.apply-made.ensures.answers)
    (c.enter.ensures.added ∙ ap₂ (λ (xs ys : List Message). xs ++ ys) c.in_ok-reserve.ensures.items c.apply-made.ensures.answers)
