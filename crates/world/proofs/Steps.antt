-- The step of one actor, in the world.
use Rattle.std.proofs.Common.{◌≡◌, ℕ, ◌/◌, ◌%◌, ◌<◌, ◌≤◌, Bool, true, false, not, ◌&&◌, nat_lt, List, Option, Some, Result, Ok, Err, length, option_map, set, refl, sym, ap, ap₂, ◌∙◌, subst, arith, slice_get, get_or, length-set, lt-ltb}
use Rattle.std.proofs.lemmas.List.{length-map}
use Rattle.std.proofs.lemmas.Option.{slice_get_read, slice_get_within}
use Rattle.volume_model.specs.declared.fault.Fault.{Fault}
use Rattle.volume_model.specs.declared.fault.Fault.TheVariants.{NoActor}
use Rattle.volume_model.specs.Common.{put, put_at, Plan, is_named, Message, never_after_growth, AnswersAfterGrowth, refuse_if, NodeAnswer, NodeStep, ClientAnswer, ClientStep, Authority, AuthorityStep, Step, World, of_authority, groups_joined, of_node, of_client, if_there}
use Rattle.volume_model.specs.Node.{Node}
use Rattle.volume_model.specs.Client.{Client}
use Rattle.segment_core.specs.declared.segment.Segment.{Segment}
use Rattle.segment_core.specs.Segment.{node_of, segment_plan, segment_group, segment_member, IsSegmentOf, IsSameActor}
use Rattle.world.specs.Slots.{slot_of, node_at}
use Rattle.world.specs.Homes.{nodes_of, IsPlace, AreHomes}
use Rattle.world.specs.Worlds.{world_with}
use Rattle.world.specs.Moves.{counted, result_of_step, AuthorityMoves, ClientMoves, ActorState, Moves, NodeMoves, StepResult}
use Rattle.world.specs.Actors.{moved, moved_of, Moved, Steps}
use Rattle.world.proofs.Moving.{answers_along, map_ok}
use Rattle.world.proofs.OneNode.{node_at-set, put_at-same, slice_get-map, in_place, each-set, map-set, put-same}
use Rattle.std.proofs.lemmas.Grind.{common_steps}

-- the plan names no member whose number isn't below 64
abbrev pub LowFor : Plan → Type 0
LowFor plan = (group member : ℕ) → 64 ≤ member → is_named plan group member ≡ false

-- what stands in the slot of a member
pub place_of_member : (plan : Plan) (slots : List (Option Segment)) (g m : ℕ) → AreHomes plan slots → m < 64 → (o : Option Segment) → slice_get slots (slot_of g m) ≡ Some o → IsPlace plan g m o
place_of_member plan slots g m homes low o e = grind (arith, common_steps, (in_place g m low))

-- the node of a member is the one in its slot
pub node_in_slot : (plan : Plan) (slots : List (Option Segment)) (g m : ℕ) → m < 64 → (s : Segment) → slice_get slots (slot_of g m) ≡ Some (Some s) → node_at plan (nodes_of slots) g m ≡ node_of s
node_in_slot plan slots g m low s e = grind (arith, common_steps, lt-ltb, Bool, slice_get-map, option_map)

and-false : (b : Bool) → (b && false) ≡ false
and-false true = refl
and-false false = refl

-- a node is refused that isn't there
absent_steps : (late : Fault → Bool) (plan : Plan) (world : World) (joined g m : ℕ) (defined : NodeAnswer) → (nat_lt g joined && is_named plan g m) ≡ false → Steps late (of_node world g m (if_there plan joined g m defined)) world (Err NoActor) world
absent_steps late plan world joined g m defined e = grind (arith, common_steps)

-- that is one that the plan doesn't name
pub unnamed_steps : (late : Fault → Bool) (plan : Plan) (world : World) (joined g m : ℕ) (defined : NodeAnswer) → is_named plan g m ≡ false → Steps late (of_node world g m (if_there plan joined g m defined)) world (Err NoActor) world
unnamed_steps late plan world joined g m defined e = absent_steps late plan world joined g m defined (ap (λ (b : Bool). nat_lt g joined && b) e ∙ and-false (nat_lt g joined))

-- what the step of an actor leaves in the world, where the world in which the actor is this and these are all messages is placed so
module _ {S T : Type 0} (made : T → List Message) (actor : T → S) (placed : ActorState S → World) where
  -- the result of the actor, told of the world
  abbrev pub onward : StepResult S → Moved
  onward t = record { count = t.count; world = placed (record { actor = t.actor; messages = t.messages }) }

  pub placed_steps : (late : Fault → Bool) (defined : Result T Fault) (whole : Result Step Fault) (kept now : List Message) (old new : S) (before after : World) → map_ok onward (result_of_step made actor kept defined) ≡ moved_of whole
      → placed (record { actor = old; messages = kept }) ≡ before → placed (record { actor = new; messages = now }) ≡ after → (result : Result ℕ Fault) → Moves made actor late defined old kept result new now → Steps late whole before result after
  placed_steps late defined whole kept now old new before after is here there result moves =
      let event_result : Result (StepResult S) Fault = result_of_step made actor kept defined in
      let was : ActorState S = record { actor = old; messages = kept } in
      let will_be : ActorState S = record { actor = new; messages = now } in
      subst (λ (d : Result Moved Fault). AnswersAfterGrowth late moved d before result after) is
      (subst (λ (w : World). AnswersAfterGrowth late moved (map_ok onward event_result) w result after) here
      (subst (λ (w : World). AnswersAfterGrowth late moved (map_ok onward event_result) (placed was) result w) there
      (answers_along late counted moved onward placed (λ r h. refl) event_result was result will_be moves)))

-- what a node's step leaves in the world
module _ (plan : Plan) (authority : Authority) (slots : List (Option Node)) (clients : ℕ → Client) (kept : List Message) (g m : ℕ) (low : m < 64) (within : slot_of g m < length slots) (old new : Node) (there : node_at plan slots g m ≡ old) (joined : nat_lt g (groups_joined authority) ≡ true) (named : is_named plan g m ≡ true) (defined : NodeAnswer) where
  abbrev pub before : World
  before = world_with authority (node_at plan slots) clients kept

  abbrev pub after : List Message → World
  after now = world_with authority (node_at plan (set slots (slot_of g m) (Some new))) clients now

  asked : of_node before g m (if_there plan (groups_joined authority) g m defined) ≡ of_node before g m defined
  asked = ap₂ (λ (b c : Bool). of_node before g m (refuse_if (not (b && c)) NoActor defined)) joined named

  -- the world in which the node is this, and these are all messages
  abbrev placed : ActorState Node → World
  placed held = world_with authority (put_at (node_at plan slots) g m held.actor) clients held.messages

  moved_on : (answer : NodeAnswer) → map_ok (onward (λ (s : NodeStep). s.made) (λ (s : NodeStep). s.node) placed) (result_of_step (λ (s : NodeStep). s.made) (λ (s : NodeStep). s.node) kept answer) ≡ moved_of (of_node before g m answer)
  moved_on (Err fault) = refl
  moved_on (Ok step) = refl

  here : placed (record { actor = old; messages = kept }) ≡ before
  here = ap (λ (f : ℕ → ℕ → Node). world_with authority f clients kept) (ap (put_at (node_at plan slots) g m) (sym there) ∙ put_at-same (node_at plan slots) g m)

  there_now : (now : List Message) → placed (record { actor = new; messages = now }) ≡ after now
  there_now now = ap (λ (f : ℕ → ℕ → Node). world_with authority f clients now) (sym (node_at-set plan slots g m new low within))

  pub node_steps : (late : Fault → Bool) (result : Result ℕ Fault) (now : List Message) → NodeMoves late defined old kept result new now → Steps late (of_node before g m (if_there plan (groups_joined authority) g m defined)) before result (after now)
  node_steps late result now moves =
      placed_steps (λ (s : NodeStep). s.made) (λ (s : NodeStep). s.node) placed late defined (of_node before g m (if_there plan (groups_joined authority) g m defined)) kept now old new before (after now) (moved_on defined ∙ ap moved_of (sym asked)) here (there_now now) result moves

-- what stands where a slot was found
pub found_there : (slots : List (Option Segment)) (slot at : ℕ) (x o : Option Segment) → x ≡ get_or slots slot x → slot ≡ at → slot < length slots → x ≡ o → slice_get slots at ≡ Some o
found_there slots slot at x o e same within is = ap (slice_get slots) (sym same) ∙ slice_get_read slots (length slots) slot x refl within e ∙ ap Some is

-- a segment that stands in its slot takes a step
module _ (plan : Plan) (authority : Authority) (slots : List (Option Segment)) (clients : ℕ → Client) (kept : List Message) (homes : AreHomes plan slots) (g m : ℕ) (low : m < 64) (s new : Segment) (there : slice_get slots (slot_of g m) ≡ Some (Some s)) (actor : IsSameActor s new) (joined : nat_lt g (groups_joined authority) ≡ true) where
  home : (is_named plan g m ≡ true) × IsSegmentOf plan g m s
  home = place_of_member plan slots g m homes low (Some s) there

  pub segment_steps : (late : Fault → Bool) (f : Plan → ℕ → ℕ → Node → NodeAnswer) (result : Result ℕ Fault) (now : List Message) → NodeMoves late (f (segment_plan s) (segment_group s) (segment_member s) (node_of s)) (node_of s) kept result (node_of new) now
      → Steps late (of_node (world_with authority (node_at plan (nodes_of slots)) clients kept) g m (if_there plan (groups_joined authority) g m (f plan g m (node_at plan (nodes_of slots) g m)))) (world_with authority (node_at plan (nodes_of slots)) clients kept) result (world_with authority (node_at plan (nodes_of (set slots (slot_of g m) (Some new)))) clients now)
  segment_steps late f result now moves =
      let at : node_at plan (nodes_of slots) g m ≡ node_of s = node_in_slot plan slots g m low s there in
      let asked : f (segment_plan s) (segment_group s) (segment_member s) (node_of s) ≡ f plan g m (node_at plan (nodes_of slots) g m) = λ i. f (home.1.plan_is i) (home.1.group_is i) (home.1.member_is i) (sym at i) in
      let here : slot_of g m < length slots = slice_get_within slots (slot_of g m) (Some s) there in
      let within : slot_of g m < length (nodes_of slots) = omega (arith, length-map slots (option_map node_of)) in
      subst (λ (ns : List (Option Node)). Steps late (of_node (world_with authority (node_at plan (nodes_of slots)) clients kept) g m (if_there plan (groups_joined authority) g m (f plan g m (node_at plan (nodes_of slots) g m)))) (world_with authority (node_at plan (nodes_of slots)) clients kept) result (world_with authority (node_at plan ns) clients now))
      (sym (map-set (option_map node_of) slots (slot_of g m) (Some new)))
      (node_steps plan authority (nodes_of slots) clients kept g m low within (node_of s) (node_of new) at joined home.0 (f plan g m (node_at plan (nodes_of slots) g m)) late result now
      (subst (λ (d : NodeAnswer). NodeMoves late d (node_of s) kept result (node_of new) now) asked moves))

  pub homes_on : AreHomes plan (set slots (slot_of g m) (Some new))
  homes_on = record {
    long = length-set slots (slot_of g m) (Some new) ∙ homes.long;
    place = each-set (λ k o. IsPlace plan (k / 64) (k % 64) o) slots (slot_of g m) (Some new) homes.place (
        let p = in_place g m low in
        let moved : IsPlace plan g m (Some new) = (home.0, record { plan_is = actor.plan_is ∙ home.1.plan_is; group_is = actor.group_is ∙ home.1.group_is; member_is = actor.member_is ∙ home.1.member_is }) in
        subst (λ (n : ℕ). IsPlace plan n (slot_of g m % 64) (Some new)) (sym p.0) (subst (λ (n : ℕ). IsPlace plan g n (Some new)) (sym p.1) moved));
  }

-- what a client's step leaves in the world
module _ (authority : Authority) (nodes : ℕ → ℕ → Node) (clients : ℕ → Client) (kept : List Message) (v : ℕ) where
  abbrev pub begun : World
  begun = world_with authority nodes clients kept

  -- the world in which the client is this, and these are all messages
  abbrev client_placed : ActorState Client → World
  client_placed held = world_with authority nodes (put clients v held.actor) held.messages

  client_moved_on : (answer : ClientAnswer) → map_ok (onward (λ (s : ClientStep). s.made) (λ (s : ClientStep). s.client) client_placed) (result_of_step (λ (s : ClientStep). s.made) (λ (s : ClientStep). s.client) kept answer) ≡ moved_of (of_client begun v answer)
  client_moved_on (Err fault) = refl
  client_moved_on (Ok step) = refl

  pub client_steps : (late : Fault → Bool) (defined : ClientAnswer) (old new : Client) → clients v ≡ old → (later : ℕ → Client) → put clients v new ≡ later → (result : Result ℕ Fault) (now : List Message) → ClientMoves late defined old kept result new now → Steps late (of_client begun v defined) begun result (world_with authority nodes later now)
  client_steps late defined old new there later is result now moves =
      placed_steps (λ (s : ClientStep). s.made) (λ (s : ClientStep). s.client) client_placed late defined (of_client begun v defined) kept now old new begun (world_with authority nodes later now) (client_moved_on defined)
      (ap (λ (f : ℕ → Client). world_with authority nodes f kept) (ap (put clients v) (sym there) ∙ put-same clients v)) (ap (λ (f : ℕ → Client). world_with authority nodes f now) is) result moves

-- what a step of the authority leaves in the world
module _ (old : Authority) (nodes : ℕ → ℕ → Node) (clients : ℕ → Client) (kept : List Message) where
  abbrev pub asked_of : World
  asked_of = world_with old nodes clients kept

  -- the world in which the authority is this, and these are all messages
  abbrev authority_placed : ActorState Authority → World
  authority_placed held = world_with held.actor nodes clients held.messages

  authority_moved_on : (answer : Result AuthorityStep Fault) → map_ok (onward (λ (s : AuthorityStep). s.made) (λ (s : AuthorityStep). s.authority) authority_placed) (result_of_step (λ (s : AuthorityStep). s.made) (λ (s : AuthorityStep). s.authority) kept answer) ≡ moved_of (of_authority asked_of answer)
  authority_moved_on (Err fault) = refl
  authority_moved_on (Ok step) = refl

  pub authority_steps : (defined : Result AuthorityStep Fault) (new : Authority) (result : Result ℕ Fault) (now : List Message) → AuthorityMoves defined old kept result new now → Steps never_after_growth (of_authority asked_of defined) asked_of result (world_with new nodes clients now)
  authority_steps defined new result now moves =
      placed_steps (λ (s : AuthorityStep). s.made) (λ (s : AuthorityStep). s.authority) authority_placed never_after_growth defined (of_authority asked_of defined) kept now old new asked_of (world_with new nodes clients now) (authority_moved_on defined) refl refl result moves
