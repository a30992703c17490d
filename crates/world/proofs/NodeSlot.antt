-- A member's slot, among the actors.
use Rattle.std.proofs.Common.{◌≡◌, ℕ, ◌<◌, nat_lt, true, List, Option, Some, None, Result, Err, length, set, get_or, sym, ap, subst, slice_get, Bool}
use Rattle.volume_model.specs.declared.fault.Fault.{Fault}
use Rattle.volume_model.specs.declared.fault.Fault.TheVariants.{NoActor}
use Rattle.volume_model.specs.Common.{Message, NodeAnswer, Plan, World, groups_joined, if_there, of_node}
use Rattle.volume_model.specs.Node.{Node}
use Rattle.epochs.specs.Authority.{authority_of}
use Rattle.segment_core.specs.declared.segment.Segment.{Segment}
use Rattle.segment_core.specs.Segment.{node_of, segment_plan, segment_group, segment_member, IsSameActor}
use Rattle.world.specs.declared.actors.Actors.{Actors}
use Rattle.world.specs.Actors.{plan_of, world_of, messages_in, AreActors, Steps}
use Rattle.world.specs.Clients.{clients_of}
use Rattle.world.specs.Homes.{nodes_of, AreHomes}
use Rattle.world.specs.Moves.{NodeMoves}
use Rattle.world.specs.Slots.{members, node_at, slot_of}
use Rattle.world.specs.Worlds.{world_with}
use Rattle.world.proofs.OneNode.{set-read}
use Rattle.world.proofs.Steps.{found_there, segment_steps, homes_on, place_of_member, unnamed_steps}

-- what was read at the slot of a member
module _ (self : Actors) (are : AreActors self) (g m slot : ℕ) (same : slot ≡ slot_of g m) (within : slot < length self.nodes.items) (low : m < members) (read : Option Segment) (value : read ≡ get_or self.nodes.items slot read) where
  stands : (o : Option Segment) → read ≡ o → slice_get self.nodes.items (slot_of g m) ≡ Some o
  stands o is = found_there self.nodes.items slot (slot_of g m) read o value same within is

  -- the world where these stand in the slots, with these messages
  abbrev pub world_of_slots : List (Option Segment) → List Message → World
  world_of_slots slots now = world_with (authority_of self.authority) (node_at (plan_of self) (nodes_of slots)) (clients_of self.clients.items) now

  -- the step of the node, where it does this
  abbrev pub does : (Plan → ℕ → ℕ → Node → NodeAnswer) → NodeAnswer
  does f = if_there (plan_of self) (groups_joined (authority_of self.authority)) g m (f (plan_of self) g m (node_at (plan_of self) (nodes_of self.nodes.items) g m))

  -- a segment takes a step
  module _ (s new : Segment) (is : read ≡ Some s) (actor : IsSameActor s new) (joined : nat_lt g (groups_joined (authority_of self.authority)) ≡ true) where
    pub homes_after : AreHomes (plan_of self) (set self.nodes.items slot (Some new))
    homes_after =
        subst (λ (k : ℕ). AreHomes (plan_of self) (set self.nodes.items k (Some new))) (sym same)
        (homes_on (plan_of self) (authority_of self.authority) self.nodes.items (clients_of self.clients.items) (messages_in self) are.homes g m low s new (stands (Some s) is) actor joined)

    pub steps_after : (late : Fault → Bool) (f : Plan → ℕ → ℕ → Node → NodeAnswer) (result : Result ℕ Fault) (now : List Message) → NodeMoves late (f (segment_plan s) (segment_group s) (segment_member s) (node_of s)) (node_of s) (messages_in self) result (node_of new) now
        → Steps late (of_node (world_of self) g m (does f)) (world_of self) result (world_of_slots (set self.nodes.items slot (Some new)) now)
    steps_after late f result now moves =
        subst (λ (k : ℕ). Steps late (of_node (world_of self) g m (does f)) (world_of self) result (world_of_slots (set self.nodes.items k (Some new)) now)) (sym same)
        (segment_steps (plan_of self) (authority_of self.authority) self.nodes.items (clients_of self.clients.items) (messages_in self) are.homes g m low s new (stands (Some s) is) actor joined late f result now moves)

  -- the plan names nobody there
  pub nobody_steps : (late : Fault → Bool) (f : Plan → ℕ → ℕ → Node → NodeAnswer) → read ≡ None → Steps late (of_node (world_of self) g m (does f)) (world_of self) (Err NoActor) (world_of_slots (set self.nodes.items slot read) (messages_in self))
  nobody_steps late f is =
      let refused = unnamed_steps late (plan_of self) (world_of self) (groups_joined (authority_of self.authority)) g m (f (plan_of self) g m (node_at (plan_of self) (nodes_of self.nodes.items) g m)) (place_of_member (plan_of self) self.nodes.items g m are.homes low None (stands None is)) in
      (refused.0, ap (λ (slots : List (Option Segment)). world_of_slots slots (messages_in self)) (set-read self.nodes.items slot read value within))
