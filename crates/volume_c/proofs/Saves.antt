-- A segment that a handle holds is saved.
use Rattle.std.proofs.Common.{◌≡◌, ◌≢◌, ◌<◌, ◌⊎◌, ℕ, [], Option, Some, None, Ok, inl, inr, refl, sym, ap, subst, arith}
use Rattle.wire.specs.Common.{messages_of}
use Rattle.segment_core.specs.declared.segment.Segment.{Segment}
use Rattle.segment_core.specs.Segment.{node_of, segment_plan, segment_group, segment_member, IsSameActor}
use Rattle.volume_model.specs.Common.{restarted}
use Rattle.volume_model.specs.Node.{Node}
use Rattle.volume_c.specs.declared.actor.Actor.{Actor}
use Rattle.volume_c.specs.declared.actor.Actor.TheVariants as actor
use Rattle.volume_c.specs.declared.actor.Held.{Held}
use Rattle.volume_c.specs.declared.outbox.Outbox.{Outbox}
use Rattle.volume_c.specs.Outbox.{left_in}
use Rattle.volume_c.specs.View.{ANode, ASnapshot, view_of, seen, unsent}
use Rattle.volume_c.specs.Calls.{node_does, Value, IsRefusal, Does, Makes}
use Rattle.volume_c.specs.Saved.{segment_spelled}
use Rattle.volume_c.specs.Segments.{dropped, snapshot_step}
use Rattle.volume_c.proofs.Made.{wants}

abbrev held : Actor → Outbox → Option Held
held a box = Some (record { actor = a; outbox = box })

-- a status of the library's own, or for lack of memory
own-refusal : {A : Type 0} (defined : Value A) (status : ℕ) → (status ≡ 94) ⊎ (status ≡ 9) → status < 90 → IsRefusal status defined
own-refusal defined status (inl much) few = absurd (omega (arith, few, much))
own-refusal defined status (inr nine) few = wants defined status nine

module _ (s t : Segment) (a : Actor) (status : ℕ) (old new : Option Held) (is : a ≡ actor.Segment s) (own : status ≢ 0 → (status ≡ 94) ⊎ (status ≡ 9)) (failed : status ≢ 0 → (node_of t ≡ node_of s) × (new ≡ old)) where
  -- the segment has dropped its pieces
  pub save-does : (box : Outbox) → IsSameActor s t → left_in box ≡ [] → (status ≡ 0 → node_of t ≡ restarted (node_of s)) → Does (node_does dropped (view_of a)) status (held a box) (held (actor.Segment t) box)
  save-does box same none saved =
      let now : (n : Node) → node_of t ≡ n → view_of (actor.Segment t) ≡ ANode (segment_plan s) (segment_group s) (segment_member s) n = λ n e. λ i. ANode (same.plan_is i) (same.group_is i) (same.member_is i) (e i) in
      subst (λ (x : Actor). Does (node_does dropped (view_of x)) status (held x box) (held (actor.Segment t) box)) (sym is) (record {
        ok = λ zero. (λ i. Some (Ok (sym (ap messages_of none) i, sym (now (restarted (node_of s)) (saved zero)) i)), ap messages_of none);
        unchanged = λ some. (now (node_of s) (failed some).0, refl);
        refused = λ some few. own-refusal (node_does dropped (view_of (actor.Segment s))) status (own some) few;
      })

  -- the other handle holds the snapshot
  pub save-makes : old ≡ None → (status ≡ 0 → seen new ≡ ASnapshot (segment_spelled (restarted (node_of s)))) → (status ≡ 0 → unsent new ≡ []) → Makes (snapshot_step (view_of a)) status old new
  save-makes empty bytes nothing =
      subst (λ (x : Actor). Makes (snapshot_step (view_of x)) status old new) (sym is) (record {
        ok = λ zero. (λ i. Some (Ok (sym (nothing zero) i, sym (bytes zero) i)), empty);
        unchanged = λ some. (failed some).1;
        refused = λ some few. own-refusal (snapshot_step (view_of (actor.Segment s))) status (own some) few;
      })
