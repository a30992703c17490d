-- The laws of actors, and of runs as entries of a journal.
use Rattle.std.specs.Prelude.{◌≡◌, ℕ, ◌+◌, ◌≤◌, true, false, List, [], ◌∷◌, ◌++◌, length, take, Some, Err, slice_get}
use mathlib.Core.List.{IsPrefix}
use Rattle.volume_model.specs.declared.fault.Fault.{Fault}
use Rattle.volume_model.specs.declared.fault.Fault.TheVariants.{NoMessage}
use Rattle.volume_model.specs.Lists.{added, numbered}
use Rattle.volume_model.specs.Plan.{Plan}
use Rattle.volume_model.specs.Message.{Message}
use Rattle.volume_model.specs.Node.{Node, reaction, hydrated, offered}
use Rattle.volume_model.specs.Client.{Client, is_born}
use Rattle.volume_model.specs.ClientWriter.{Change, issued, resent, page_asked}
use Rattle.volume_model.specs.ClientRecovery.{cut_client, opened}
use Rattle.volume_model.specs.ClientMessages.{taken}
use Rattle.volume_model.specs.World.{World, Event, Authority, step, after, assigned, advanced, groups_joined, grown, refreshed}
use Rattle.volume_model.specs.Actor.{Actor, acted, actor_of, in_world, named_by, same_actor, state_in, Agree, JoinedAlike, Keeps}
use Rattle.volume_model.specs.StepResults.{makes, Refuses, IsOwn, IsOwnOfClient}
use Rattle.volume_model.specs.Journal.{Entry, world_at, Goes, IsRun, last_of, before}
use Rattle.volume_model.specs.Judging.{Refusal, IsRefused, Exact, IsNoted}

-- a step of the world is the step of the event's actor, computed from the actor's state, the number of groups that have
-- joined, and the messages made so far
abbrev pub StepsAreOfActors : Type 0
StepsAreOfActors = (plan : Plan) (w : World) (e : Event) → step plan w e ≡ in_world w (actor_of e)
    (acted plan (groups_joined w.authority) w.messages e (state_in w (actor_of e)))

-- an event changes no actor but its own
abbrev pub LeavesOthers : Type 0
LeavesOthers = (plan : Plan) (w : World) (e : Event) (actor : Actor) → same_actor (actor_of e) actor ≡ false
    → Agree actor w (after plan w e)

-- the messages that an event makes are put before the older ones, in their order. A refused event changes nothing
pub record MessagesGrow : Type 0 where
  pub grow : (plan : Plan) (w : World) (e : Event) (ms : List Message) → makes (step plan w e) ≡ Some ms
      → ((after plan w e).messages ≡ added ms w.messages) × (length (after plan w e).messages ≡ length w.messages +
      length ms)
  pub refused : (plan : Plan) (w : World) (e : Event) (fault : Fault) → step plan w e ≡ Err fault → after plan w e ≡ w

-- a prefix that includes an actor's last entry gives the actor's state
abbrev pub AgreesAtLast : Type 0
AgreesAtLast = (plan : Plan) (actor : Actor) (seen es : List Entry) → IsPrefix seen es → last_of actor es ≤ length seen
    → Agree actor (world_at plan seen) (world_at plan es)

-- a run with one more step is a run, and the first of an entry is the number of messages made before it
pub record RunsGoOn : Type 0 where
  pub push : (plan : Plan) (es : List Entry) (e : Entry) → IsRun plan es → Goes plan (world_at plan es) e
      → IsRun plan (es ++ e ∷ [])
  pub firsts : (plan : Plan) (es : List Entry) (k : ℕ) (e : Entry) → IsRun plan es → slice_get es k ≡ Some e → e.first
      ≡ before plan es k
  pub messages : (plan : Plan) (es : List Entry) (e : Entry) → Goes plan (world_at plan es) e
      → length (world_at plan (es ++ e ∷ [])).messages ≡ e.first + length e.made

-- An event has the same result in two worlds that agree on its actor's state and on whether a node's group has joined,
-- if the second has the messages of the first. Only a refusal for a missing message may differ
pub record StepsAlike : Type 0 where
  pub refused : (plan : Plan) (w v : World) (e : Event) (fault : Fault) → (fault ≡ NoMessage → ⊥) → Agree (actor_of e) w
      v → JoinedAlike e w v → Keeps w v → step plan w e ≡ Err fault → step plan v e ≡ Err fault
  pub made : (plan : Plan) (w v : World) (e : Event) (ms : List Message) → Agree (actor_of e) w v → JoinedAlike e w v
      → Keeps w v → makes (step plan w e) ≡ Some ms → makes (step plan v e) ≡ Some ms

-- a message keeps the number that its entry and its place in the entry give
pub record MessagesAreFound : Type 0 where
  pub later : (plan : Plan) (es fs : List Entry) → IsPrefix es fs → (n : ℕ) (x : Message)
      → numbered (world_at plan es).messages n ≡ Some x → numbered (world_at plan fs).messages n ≡ Some x
  pub made : (plan : Plan) (es : List Entry) (k index : ℕ) (x : Message) (e : Entry) → IsRun plan es → slice_get es k
      ≡ Some e → slice_get e.made index ≡ Some x → numbered (world_at plan es).messages (e.first + index + 1) ≡ Some x
  pub named : (plan : Plan) (es : List Entry) → IsRun plan es → (k : ℕ) (e : Entry) (n : ℕ) → slice_get es k ≡ Some e
      → named_by e.event ≡ Some n → n ≤ before plan es k

-- an actor never refuses for a missing message, an actor, a slot or a journal cell; except that a client refuses as
-- NoActor before it is born
pub record RefusalsAreOwn : Type 0 where
  pub deliver : (plan : Plan) (group member : ℕ) (node : Node) (m : Message) → Refuses IsOwn
      (reaction plan group member node m)
  pub hydrate : (plan : Plan) (group member : ℕ) (node : Node) → Refuses IsOwn (hydrated plan group member node)
  pub offer : (group : ℕ) (node : Node) (lsn : ℕ) → Refuses IsOwn (offered group node lsn)
  pub assign : (plan : Plan) (a : Authority) → Refuses IsOwn (assigned plan a)
  pub advance : (plan : Plan) (a : Authority) (group c : ℕ) → Refuses IsOwn (advanced plan a group c)
  pub refresh : (plan : Plan) (a : Authority) (volume : ℕ) → Refuses IsOwn (refreshed plan a volume)
  pub grow : (plan : Plan) (a : Authority) → Refuses IsOwn (grown plan a)
  pub issue : (plan : Plan) (volume : ℕ) (client : Client) (changes : List Change) → is_born client.stage ≡ true
      → Refuses IsOwn (issued plan volume client changes)
  pub take : (plan : Plan) (volume : ℕ) (client : Client) (m : Message) → is_born client.stage ≡ true → Refuses IsOwn
      (taken plan volume client m)
  pub take_unborn : (plan : Plan) (volume : ℕ) (client : Client) (m : Message) → Refuses IsOwnOfClient
      (taken plan volume client m)
  pub cut : (plan : Plan) (volume : ℕ) (client : Client) → is_born client.stage ≡ true → Refuses IsOwn
      (cut_client plan volume client)
  pub opening : (plan : Plan) (client : Client) → is_born client.stage ≡ true → Refuses IsOwn (opened plan client)
  pub resend : (volume : ℕ) (client : Client) (lsn : ℕ) → is_born client.stage ≡ true → Refuses IsOwn
      (resent volume client lsn)
  pub read : (volume : ℕ) (client : Client) (group block : ℕ) → is_born client.stage ≡ true → Refuses IsOwn
      (page_asked volume client group block)

-- A refusal of the model may be noted with any number from the actor's last entry on, provided that a node's group had
-- joined then as it has now. A noted refusal stays true as the journal grows
pub record RefusalsLast : Type 0 where
  pub noted : (plan : Plan) (slots cells number : ℕ) (es : List Entry) (event : Event) (fault : Fault) → IsNoted fault
      → number ≤ length es → last_of (actor_of event) es ≤ number
      → JoinedAlike event (world_at plan (take number es)) (world_at plan es) → Exact plan slots cells es event fault → IsRefused plan slots cells es (record { event = event; fault = fault; number = number })
  pub longer : (plan : Plan) (slots cells : ℕ) (es fs : List Entry) (n : Refusal) → IsPrefix es fs → length fs ≤ cells
      → IsRefused plan slots cells es n → IsRefused plan slots cells fs n
