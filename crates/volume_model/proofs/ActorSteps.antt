-- A step of the world, as that of one actor.
use Rattle.std.proofs.Common.{◌≡◌, ℕ, refl, Result, Ok, Err}
use Rattle.volume_model.specs.declared.fault.Fault.{Fault}
use Rattle.volume_model.specs.Common.{Plan, NodeAnswer, ClientAnswer, Event, World, AuthorityStep, groups_joined, of_authority, of_client, of_node, step, Issue, Take, Cut, Open, Resend, Read, Deliver, Hydrate, Restart, Offer, Actor, acted, actor_of, authority_acted, client_acted, in_world, node_acted, state_in}

-- a step of the authority in a world is that of an actor
in_world-authority : (w : World) (answer : Result AuthorityStep Fault) → of_authority w answer ≡ in_world w Actor.TheAuthority (authority_acted answer)
in_world-authority w (Err fault) = refl
in_world-authority w (Ok s) = refl

-- a step of a client in a world is that of an actor
in_world-client : (w : World) (volume : ℕ) (answer : ClientAnswer) → of_client w volume answer ≡ in_world w (Actor.Client volume) (client_acted volume answer)
in_world-client w volume (Err fault) = refl
in_world-client w volume (Ok s) = refl

-- a step of a node in a world is that of an actor
in_world-node : (w : World) (group member : ℕ) (answer : NodeAnswer) → of_node w group member answer ≡ in_world w (Actor.Node group member) (node_acted group member answer)
in_world-node w group member (Err fault) = refl
in_world-node w group member (Ok s) = refl

-- a step of the world is that of its actor
pub step_of_actor : (plan : Plan) (w : World) (e : Event) → step plan w e ≡ in_world w (actor_of e) (acted plan (groups_joined w.authority) w.messages e (state_in w (actor_of e)))
step_of_actor plan w (Issue volume changes) = in_world-client w volume _
step_of_actor plan w (Take volume number) = in_world-client w volume _
step_of_actor plan w (Cut volume) = in_world-client w volume _
step_of_actor plan w (Open volume) = in_world-client w volume _
step_of_actor plan w (Resend volume lsn) = in_world-client w volume _
step_of_actor plan w (Read volume group block) = in_world-client w volume _
step_of_actor plan w (Deliver group member number) = in_world-node w group member _
step_of_actor plan w (Hydrate group member) = in_world-node w group member _
step_of_actor plan w (Restart group member) = in_world-node w group member _
step_of_actor plan w (Offer group member lsn) = in_world-node w group member _
step_of_actor plan w m = in_world-authority w _
