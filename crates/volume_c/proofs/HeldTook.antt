-- The segment that a handle holds takes a frame.
use Rattle.std.proofs.Common.{◌≡◌, ◌≢◌, ℕ, ◌-◌, List, [], Option, Some, length, sym, ap, subst}
use Rattle.wire.specs.declared.message.Message.{Message}
use Rattle.wire.specs.Common.{messages_of}
use Rattle.segment_core.specs.declared.segment.Segment.{Segment}
use Rattle.segment_core.specs.Segment.{node_of, segment_plan, segment_group, segment_member, IsSameActor}
use Rattle.volume_c.specs.declared.actor.Actor.{Actor}
use Rattle.volume_c.specs.declared.actor.Actor.TheVariants as actor
use Rattle.volume_c.specs.declared.actor.Held.{Held}
use Rattle.volume_c.specs.declared.outbox.Outbox.{Outbox}
use Rattle.volume_c.specs.Outbox.{left_in}
use Rattle.volume_c.specs.View.{ANode, view_of}
use Rattle.volume_c.specs.Frames.{TakesFrame}
use Rattle.volume_c.specs.Turns.{own_next, turn_of, IsNextRefusal, TookOwn}
use Rattle.volume_c.proofs.Turns.{frame-taken}

abbrev holds : Actor → Outbox → Option Held
holds a box = Some (record { actor = a; outbox = box })

pub held-took : (s t : Segment) (a : Actor) (before after : Outbox) (first waiting : List Message) (frame rest : List ℕ) (status count : ℕ)
    → IsSameActor s t → a ≡ actor.Segment s → left_in before ≡ [] → left_in after ≡ waiting → first ≡ []
    → TookOwn s frame rest (turn_of first s) (turn_of waiting t) → (status ≡ 0 → rest ≡ []) → (status ≢ 0 → IsNextRefusal status (own_next s (turn_of waiting t) rest))
    → count ≡ length frame - length rest
    → TakesFrame frame count status (holds a before) (holds (actor.Segment t) after)
held-took s t a before after first waiting frame rest status count same is none left empty took all refused counts =
    subst (λ n. TakesFrame frame n status (holds a before) (holds (actor.Segment t) after)) (sym counts)
    (frame-taken (segment_plan s) (segment_group s) (segment_member s) (node_of s) (turn_of waiting t) frame rest status (holds a before) (holds (actor.Segment t) after)
    (ap view_of is)
    (ap messages_of none)
    (λ i. ANode (same.plan_is i) (same.group_is i) (same.member_is i) (node_of t))
    (ap messages_of left)
    (subst (λ l. TookOwn s frame rest (turn_of l s) (turn_of waiting t)) empty took)
    all refused)
