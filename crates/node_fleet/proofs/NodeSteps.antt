-- The step of a node, in the world.
use Rattle.std.proofs.Common.{◌≡◌, ◌≢◌, ℕ, ◌<◌, ◌≤◌, not, ◌&&◌, nat_lt, Bool, true, List, length, Option, Some, option_map, Result, Ok, Err, refl, sym, ap, ap₂, ◌∙◌, subst, arith, le-ltb, lt-ltb, slice_get}
use Rattle.volume_model.specs.declared.fault.Fault.{Fault}
use Rattle.volume_model.specs.declared.fault.Fault.TheVariants.{JournalFull, NoActor, NoMemory, NoMessage, NoSlot}
use Rattle.volume_model.specs.Common.{Actor, Agree, actor_of, AnswersAfterGrowth, Fails, Exact, world_at, numbered, Message, NodeAnswer, NodeStep, Plan, is_named, refuse_if, makes, refusal, IsOwn, Refuses, Event, Step, World, after, after_step, deliver, groups_joined, if_there, of_node, step}
use Rattle.volume_model.specs.Journal.{Entry}
use Rattle.volume_model.specs.Node.{Node}
use Rattle.volume_model.proofs.Frames.{put_at_here}
use Rattle.volume_model.proofs.ListFacts.{get_there}
use Rattle.volume_model.proofs.Own.{hydrated_own, offered_own, reaction_own}
use Rattle.segment_core.specs.declared.action.NodeAction.{NodeAction}
use Rattle.segment_core.specs.declared.action.NodeAction.TheVariants as action
use Rattle.segment_core.specs.declared.segment.Segment.{Segment}
use Rattle.segment_core.specs.Actions.{acted, action_after_growth}
use Rattle.segment_core.specs.Prepared.{step_of}
use Rattle.segment_core.specs.Segment.{action_of, node_of, IsSameActor, IsSegmentOf}
use Rattle.wire.specs.declared.message.Message as wire
use Rattle.wire.specs.Common.{message_of}
use Rattle.world.specs.Actions.{node_event}
use Rattle.world.proofs.ActorSteps.{node_step}

-- a node that the plan names, and whose group has joined, isn't refused for that
there_is : (plan : Plan) (joined g m : ℕ) (answer : NodeAnswer) → nat_lt g joined ≡ true → is_named plan g m ≡ true → if_there plan joined g m answer ≡ answer
there_is plan joined g m answer l e = ap₂ (λ (b c : Bool). refuse_if (not (b && c)) NoActor answer) l e

-- one whose group hasn't joined is
absent : (plan : Plan) (w : World) (g m : ℕ) (answer : NodeAnswer) → groups_joined w.authority ≤ g → refusal (of_node w g m (if_there plan (groups_joined w.authority) g m answer)) ≡ 82
absent plan w g m answer h = ap (λ (b : Bool). refusal (of_node w g m (refuse_if (not (b && is_named plan g m)) NoActor answer))) (le-ltb g (groups_joined w.authority) h)

-- what the journal says of the groups that have joined
pub there_joined : (w : World) (g from joined : ℕ) → joined ≡ groups_joined w.authority → from ≡ g → from < joined → nat_lt g (groups_joined w.authority) ≡ true
there_joined w g from joined j f h = lt-ltb g (groups_joined w.authority) (omega (arith, h, j, f))

pub not_joined : (w : World) (g from joined : ℕ) → joined ≡ groups_joined w.authority → from ≡ g → joined ≤ from → groups_joined w.authority ≤ g
not_joined w g from joined j f h = omega (arith, h, j, f)

pub unjoined_delivery : (plan : Plan) (w : World) (g m number : ℕ) → groups_joined w.authority ≤ g → refusal (step plan w (Event.Deliver g m number)) ≡ 82
unjoined_delivery plan w g m number h = absent plan w g m (deliver plan g m (w.nodes g m) (numbered w.messages number)) h

pub unjoined_action : (plan : Plan) (w : World) (g m : ℕ) (what : NodeAction) → groups_joined w.authority ≤ g
    → refusal (step plan w (node_event g m what)) ≡ 82
unjoined_action plan w g m what h = ap refusal (node_step plan w g m what) ∙ absent plan w g m (acted what plan g m (w.nodes g m)) h

module _ (plan : Plan) (w : World) (g m : ℕ) (joined : nat_lt g (groups_joined w.authority) ≡ true) (named : is_named plan g m ≡ true) (now : Node) (here : now ≡ w.nodes g m) where
  -- a delivery is the node's own step, of the message that was found
  delivers : (number : ℕ) (found : Option Message) → numbered w.messages number ≡ found → step plan w (Event.Deliver g m number) ≡ of_node w g m (deliver plan g m now found)
  delivers number found is =
      ap (of_node w g m) (there_is plan (groups_joined w.authority) g m (deliver plan g m (w.nodes g m) (numbered w.messages number)) joined named)
      ∙ ap (λ (n : Node). of_node w g m (deliver plan g m n (numbered w.messages number))) (sym here)
      ∙ ap (λ (o : Option Message). of_node w g m (deliver plan g m now o)) is

  -- so is what it does of itself
  does : (what : NodeAction) → step plan w (node_event g m what) ≡ of_node w g m (acted what plan g m now)
  does what =
      node_step plan w g m what ∙ ap (of_node w g m) (there_is plan (groups_joined w.authority) g m (acted what plan g m (w.nodes g m)) joined named)
      ∙ ap (λ (n : Node). of_node w g m (acted what plan g m n)) (sym here)

-- the refusal of a node is the one of the model
exact : (plan : Plan) (slots cells : ℕ) (es : List Entry) (g m : ℕ) (e : Event) (answer : NodeAnswer) → step plan (world_at plan es) e ≡ of_node (world_at plan es) g m answer → Refuses IsOwn answer
    → (fault : Fault) → Fails fault answer → Exact plan slots cells es e fault
exact plan slots cells es g m e answer is own NoMemory fails = tt
exact plan slots cells es g m e answer is own NoSlot fails = absurd (subst (Refuses IsOwn) fails own)
exact plan slots cells es g m e answer is own JournalFull fails = absurd (subst (Refuses IsOwn) fails own)
exact plan slots cells es g m e answer is own fault fails = ap refusal (is ∙ ap (of_node (world_at plan es) g m) fails)

-- a node doesn't refuse for lack of a message
pub not_lost : (answer : NodeAnswer) (fault : Fault) → Refuses IsOwn answer → Fails fault answer → fault ≢ NoMessage
not_lost answer fault own fails e = subst (Refuses IsOwn) (subst (λ (f : Fault). Fails f answer) e fails) own

-- refusals of a node are its own
delivery_own : (plan : Plan) (g m : ℕ) (now : Node) (found : Option Message) (x : Message) → found ≡ Some x → Refuses IsOwn (deliver plan g m now found)
delivery_own plan g m now found x is = subst (λ (o : Option Message). Refuses IsOwn (deliver plan g m now o)) (sym is) (reaction_own plan g m now x)

pub letter_own : (plan : Plan) (g m : ℕ) (now : Node) (made : List wire.Message) (index : ℕ) → index < length made → Refuses IsOwn (deliver plan g m now (option_map message_of (slice_get made index)))
letter_own plan g m now made index inside =
    let x = get_there made index inside in
    delivery_own plan g m now (option_map message_of (slice_get made index)) (message_of x.0) (ap (option_map message_of) x.1)

-- which actor does it
pub action_actor : (g m : ℕ) (what : NodeAction) → actor_of (node_event g m what) ≡ Actor.Node g m
action_actor g m action.Hydrate = refl
action_actor g m action.Restart = refl
action_actor g m (action.Offer lsn) = refl

pub action_own : (plan : Plan) (g m : ℕ) (now : Node) (what : NodeAction) → Refuses IsOwn (acted what plan g m now)
action_own plan g m now action.Hydrate = hydrated_own plan g m now
action_own plan g m now action.Restart = tt
action_own plan g m now (action.Offer lsn) = offered_own g now lsn

-- A node that stands in the journal as at its mark: what it refuses, the model refuses.
module _ (plan : Plan) (slots cells : ℕ) (es : List Entry) (seen : World) (actor : Actor) (g m : ℕ) (now : Node) (who : actor ≡ Actor.Node g m) (named : is_named plan g m ≡ true) (state : now ≡ seen.nodes g m) (agree : Agree actor seen (world_at plan es)) (joined : nat_lt g (groups_joined (world_at plan es).authority) ≡ true) where
  here : now ≡ (world_at plan es).nodes g m
  here = state ∙ subst (λ (a : Actor). Agree a seen (world_at plan es)) who agree

  -- a letter
  pub declines : (number asked : ℕ) (found : Option Message) → Refuses IsOwn (deliver plan g m now found) → asked ≡ number → numbered (world_at plan es).messages number ≡ found → (fault : Fault) → Fails fault (deliver plan g m now found) → Exact plan slots cells es (Event.Deliver g m asked) fault
  declines number asked found own same is fault fails =
      exact plan slots cells es g m (Event.Deliver g m asked) (deliver plan g m now found) (delivers plan (world_at plan es) g m joined named now here asked found (ap (numbered (world_at plan es).messages) same ∙ is)) own fault fails

  -- what it does of itself
  pub denies : (what : NodeAction) (fault : Fault) → Fails fault (acted what plan g m now)
      → Exact plan slots cells es (node_event g m what) fault
  denies what fault fails =
      exact plan slots cells es g m (node_event g m what) (acted what plan g m now)
      (does plan (world_at plan es) g m joined named now here what) (action_own plan g m now what) fault fails

  -- the messages that it answers a letter with are the model's
  pub answers : (number asked : ℕ) (found : Option Message) → asked ≡ number → numbered (world_at plan es).messages number ≡ found → (s : NodeStep) → deliver plan g m now found ≡ Ok s → (made : List Message) → made ≡ s.made → makes (step plan (world_at plan es) (Event.Deliver g m asked)) ≡ Some made
  answers number asked found same is s ok made are =
      ap makes (delivers plan (world_at plan es) g m joined named now here asked found (ap (numbered (world_at plan es).messages) same ∙ is) ∙ ap (of_node (world_at plan es) g m) ok) ∙ ap (λ (ms : List Message). Some ms) (sym are)

  -- and it is then the model's node
  pub becomes : (number asked : ℕ) (found : Option Message) → asked ≡ number → numbered (world_at plan es).messages number ≡ found → (s : NodeStep) → deliver plan g m now found ≡ Ok s → (after plan (world_at plan es) (Event.Deliver g m asked)).nodes g m ≡ s.node
  becomes number asked found same is s ok =
      ap (λ (r : Result Step Fault). (after_step (world_at plan es) r).nodes g m) (delivers plan (world_at plan es) g m joined named now here asked found (ap (numbered (world_at plan es).messages) same ∙ is) ∙ ap (of_node (world_at plan es) g m) ok)
      ∙ put_at_here (world_at plan es).nodes g m s.node

  -- what it does of itself isn't refused where the node does it
  pub grants : (what : NodeAction) (s : NodeStep) → acted what plan g m now ≡ Ok s
      → refusal (step plan (world_at plan es) (node_event g m what)) ≡ 0
  grants what s ok = ap refusal (does plan (world_at plan es) g m joined named now here what ∙ ap (of_node (world_at plan es) g m) ok)

  -- so are those that it makes of itself
  pub makes_step : (what : NodeAction) (s : NodeStep) → acted what plan g m now ≡ Ok s → (made : List Message)
      → made ≡ s.made → makes (step plan (world_at plan es) (node_event g m what)) ≡ Some made
  makes_step what s ok made are =
      ap makes (does plan (world_at plan es) g m joined named now here what ∙ ap (of_node (world_at plan es) g m) ok) ∙ ap (λ (ms : List Message). Some ms) (sym are)

  -- and it is then the model's node
  pub done : (what : NodeAction) (s : NodeStep) → acted what plan g m now ≡ Ok s
      → (after plan (world_at plan es) (node_event g m what)).nodes g m ≡ s.node
  done what s ok =
      ap (λ (r : Result Step Fault). (after_step (world_at plan es) r).nodes g m) (does plan (world_at plan es) g m joined named now here what ∙ ap (of_node (world_at plan es) g m) ok) ∙ put_at_here (world_at plan es).nodes g m s.node

-- the segment of a member stays its segment
pub same_of : (plan : Plan) (g m : ℕ) (old new : Segment) → IsSegmentOf plan g m old → IsSameActor old new → IsSegmentOf plan g m new
same_of plan g m old new of same =
    record { plan_is = same.plan_is ∙ of.plan_is; group_is = same.group_is ∙ of.group_is; member_is = same.member_is ∙ of.member_is }

-- running out of memory, or the refusal that is defined
late_fails : {R S T : Type 0} (late : Fault → Bool) (step : R → S → T) (defined : Result T Fault) (old new : S) (fault : Fault) → AnswersAfterGrowth late step defined old (Err fault) new → Fails fault defined
late_fails late step defined old new NoMemory h = tt
late_fails late step defined old new fault h = h.0

-- a segment does what it is asked to as the node that it is
module _ (plan : Plan) (g m : ℕ) (s : Segment) (is : IsSegmentOf plan g m s) (what : NodeAction) where
  same_action : action_of s what ≡ acted what plan g m (node_of s)
  same_action = λ i. acted what (is.plan_is i) (is.group_is i) (is.member_is i) (node_of s)

  pub action_steps : (made : NodeStep) → action_of s what ≡ Ok made → acted what plan g m (node_of s) ≡ Ok made
  action_steps made ok = sym same_action ∙ ok

  pub action_fails : (fault : Fault) → AnswersAfterGrowth (action_after_growth what) step_of (action_of s what)
      (node_of s) (Err fault) (node_of s) → Fails fault (acted what plan g m (node_of s))
  action_fails fault h = subst (Fails fault) same_action (late_fails (action_after_growth what) step_of
      (action_of s what) (node_of s) (node_of s) fault h)
