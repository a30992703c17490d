use Rattle.std.proofs.Common.{◌≡◌, refl, ◌∙◌, ap, sym}
use Rattle.volume_model.specs.Common.{Deliver}
use Rattle.world.specs.Actions.{action_event, authority_event, client_event, node_event}
use Rattle.world.specs.Actors.{plan_of, world_of}
use Rattle.world.specs.Events.{event_of}
use Rattle.world.proofs.ActorSteps.{authority_late, authority_step, client_late, client_step, node_late, node_step, steps_of_event}
use Rattle.world.proofs.actors.Actors.step.Goals as goal

pub returns-in-Authority-clause-steps : goal.returns-in-Authority-clause-steps
returns-in-Authority-clause-steps c =
    let self = c.args.self.now in
    let plan = plan_of self in
    let w = world_of self in
    let is : event_of c.args.event.now ≡ authority_event c.in-Authority.action = sym c.split.ensures ∙ ap action_event c.in-Authority.is in
    steps_of_event plan w (world_of c.authority_step.new.self) (authority_event c.in-Authority.action) (event_of c.args.event.now) _ _ c.authority_step.result is (authority_late c.in-Authority.action) (authority_step plan w c.in-Authority.action) c.authority_step.ensures.steps

pub returns-in-Client-clause-steps : goal.returns-in-Client-clause-steps
returns-in-Client-clause-steps c =
    let self = c.args.self.now in
    let plan = plan_of self in
    let w = world_of self in
    let is : event_of c.args.event.now ≡ client_event c.in-Client.volume c.in-Client.action = sym c.split.ensures ∙ ap action_event c.in-Client.is in
    steps_of_event plan w (world_of c.client_step.new.self) (client_event c.in-Client.volume c.in-Client.action) (event_of c.args.event.now) _ _ c.client_step.result is (client_late c.in-Client.volume c.in-Client.action) (client_step plan w c.in-Client.volume c.in-Client.action) c.client_step.ensures.steps

pub returns-in-Node-clause-steps : goal.returns-in-Node-clause-steps
returns-in-Node-clause-steps c =
    let self = c.args.self.now in
    let plan = plan_of self in
    let w = world_of self in
    let is : event_of c.args.event.now ≡ node_event c.in-Node.group c.in-Node.member c.in-Node.action = sym c.split.ensures ∙ ap action_event c.in-Node.is in
    steps_of_event plan w (world_of c.node_step.new.self) (node_event c.in-Node.group c.in-Node.member c.in-Node.action) (event_of c.args.event.now) _ _ c.node_step.result is (node_late c.in-Node.group c.in-Node.member c.in-Node.action) (node_step plan w c.in-Node.group c.in-Node.member c.in-Node.action) c.node_step.ensures.steps

pub returns-in-Deliver-clause-steps : goal.returns-in-Deliver-clause-steps
returns-in-Deliver-clause-steps c =
    let self = c.args.self.now in
    let plan = plan_of self in
    let w = world_of self in
    let is : event_of c.args.event.now ≡ Deliver c.in-Deliver.group c.in-Deliver.member c.in-Deliver.message = sym c.split.ensures ∙ ap action_event c.in-Deliver.is in
    steps_of_event plan w (world_of c.deliver.new.self) (Deliver c.in-Deliver.group c.in-Deliver.member c.in-Deliver.message) (event_of c.args.event.now) _ _ c.deliver.result is refl refl c.deliver.ensures.steps
