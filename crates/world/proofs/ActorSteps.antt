-- The step of an event is that of its actor's action.
use Rattle.std.proofs.Common.{◌≡◌, ℕ, Bool, Result, refl}
use Rattle.volume_model.specs.declared.fault.Fault.{Fault}
use Rattle.volume_model.specs.Common.{never_after_growth, Plan, Event, Step, World, groups_joined, if_there, of_authority, of_client, of_node, step}
use Rattle.segment_core.specs.declared.action.NodeAction.{NodeAction}
use Rattle.segment_core.specs.declared.action.NodeAction.TheVariants as node
use Rattle.segment_core.specs.Actions.{acted, action_after_growth}
use Rattle.world.specs.declared.actions.AuthorityAction.{AuthorityAction}
use Rattle.world.specs.declared.actions.AuthorityAction.TheVariants as authority
use Rattle.world.specs.declared.actions.ClientAction.{ClientAction}
use Rattle.world.specs.declared.actions.ClientAction.TheVariants as client
use Rattle.world.specs.Actions.{authority_acted, authority_event, client_after_growth, client_does, client_event, node_event}
use Rattle.world.specs.Actors.{event_after_growth, Steps}
use Rattle.std.proofs.lemmas.Grind.{common_steps}
use Rattle.std.proofs.Common.{arith}

-- what is said of a step where its event is this
pub steps_of_event : (plan : Plan) (w after : World) (asked event : Event) (late : Fault → Bool) (answer : Result Step Fault) (result : Result ℕ Fault)
    → event ≡ asked → event_after_growth asked ≡ late → step plan w asked ≡ answer → Steps late answer w result after → Steps (event_after_growth event) (step plan w event) w result after
steps_of_event plan w after asked event late answer result is same does steps = grind (arith, common_steps)

-- the authority's
pub authority_step : (plan : Plan) (w : World) (action : AuthorityAction) → step plan w (authority_event action) ≡ of_authority w (authority_acted plan w.authority action)
authority_step plan w authority.Assign = refl
authority_step plan w action = refl

pub authority_late : (action : AuthorityAction) → event_after_growth (authority_event action) ≡ never_after_growth
authority_late authority.Assign = refl
authority_late action = refl

-- a client's
pub client_step : (plan : Plan) (w : World) (volume : ℕ) (action : ClientAction) → step plan w (client_event volume action) ≡ of_client w volume (client_does w.messages action plan volume (w.clients volume))
client_step plan w volume (client.Issue changes) = refl
client_step plan w volume action = refl

pub client_late : (volume : ℕ) (action : ClientAction) → event_after_growth (client_event volume action) ≡ client_after_growth action
client_late volume (client.Issue changes) = refl
client_late volume action = refl

-- a node's
pub node_step : (plan : Plan) (w : World) (g m : ℕ) (action : NodeAction) → step plan w (node_event g m action) ≡ of_node w g m (if_there plan (groups_joined w.authority) g m (acted action plan g m (w.nodes g m)))
node_step plan w g m node.Hydrate = refl
node_step plan w g m action = refl

pub node_late : (g m : ℕ) (action : NodeAction) → event_after_growth (node_event g m action) ≡ action_after_growth action
node_late g m node.Hydrate = refl
node_late g m action = refl
