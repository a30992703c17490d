-- Messages of a journal, and the entries that made them.
use Rattle.std.proofs.Common.{◌≡◌, ℕ, suc, ◌+◌, ◌-◌, ◌<◌, ◌≤◌, not, ◌&&◌, nat_lt, Bool, true, false, List, length, take, Option, Some, None, refl, sym, ap, ◌∙◌, subst, arith, slice_get}
use mathlib.Core.List.{IsPrefix}
use Rattle.volume_model.specs.declared.fault.Fault.TheVariants.{NoActor}
use Rattle.volume_model.specs.Common.{added, numbered, refuse_if, Plan, is_named, Message, World, Event, step, deliver, of_client, of_node, groups_joined, Take, Cut, Open, Resend, Read, Deliver, Hydrate, Restart, Offer, Keeps, named_by, makes, world_at, IsRun, before}
use Rattle.volume_model.specs.World as model
use Rattle.volume_model.specs.Journal.{Entry}
use Rattle.volume_model.proofs.ListFacts.{numbered_kept, numbered_small, numbered_added, get_there}
use Rattle.volume_model.proofs.Growing.{messages_grow}
use Rattle.volume_model.proofs.Worlds.{world_at-push, keeps_at, take_more, take_begins}
use Rattle.std.proofs.lemmas.Grind.{common_steps}

-- a message's number finds it later
pub found_alike : (w v : World) → Keeps w v → (n : ℕ) (x : Message) → numbered w.messages n ≡ Some x → numbered v.messages n ≡ Some x
found_alike w v k n x h = numbered_kept w.messages v.messages k n x h

-- a message that a step names was made before
named_client : (plan : Plan) (w : World) (c x : ℕ) (o : Option Message) → numbered w.messages x ≡ o → (ms : List Message) → makes (of_client w c (model.take plan c (w.clients c) o)) ≡ Some ms → x ≤ length w.messages
named_client plan w c x None is ms h = absurd (cc)
named_client plan w c x (Some y) is ms h = numbered_small w.messages x y is

named_node : (plan : Plan) (w : World) (g m x : ℕ) (o : Option Message) → numbered w.messages x ≡ o → (b : Bool) (ms : List Message) → makes (of_node w g m (refuse_if (not b) NoActor (deliver plan g m (w.nodes g m) o))) ≡ Some ms → x ≤ length w.messages
named_node plan w g m x None is true ms h = absurd (cc)
named_node plan w g m x None is false ms h = absurd (cc)
named_node plan w g m x (Some y) is b ms h = numbered_small w.messages x y is

pub named_before : (plan : Plan) (w : World) (e : Event) (ms : List Message) (n : ℕ) → makes (step plan w e) ≡ Some ms → named_by e ≡ Some n → n ≤ length w.messages
named_before plan w (Take volume x) ms n h is = let e : x ≡ n = cc in subst (λ k. k ≤ length w.messages) e (named_client plan w volume x (numbered w.messages x) refl ms h)
named_before plan w (Cut volume) ms n h is = absurd (cc)
named_before plan w (Open volume) ms n h is = absurd (cc)
named_before plan w (Resend volume lsn) ms n h is = absurd (cc)
named_before plan w (Read volume group block) ms n h is = absurd (cc)
named_before plan w (Deliver group member x) ms n h is = let e : x ≡ n = cc in subst (λ k. k ≤ length w.messages) e (named_node plan w group member x (numbered w.messages x) refl (nat_lt group (groups_joined w.authority) && is_named plan group member) ms h)
named_before plan w (Hydrate group member) ms n h is = absurd (cc)
named_before plan w (Restart group member) ms n h is = absurd (cc)
named_before plan w (Offer group member lsn) ms n h is = absurd (cc)
named_before plan w m ms n h is = absurd (cc)

module _ (plan : Plan) where
  -- a message keeps its number as the journal grows
  pub numbered_later : (es fs : List Entry) → IsPrefix es fs → (n : ℕ) (x : Message) → numbered (world_at plan es).messages n ≡ Some x → numbered (world_at plan fs).messages n ≡ Some x
  numbered_later es fs p n x h = found_alike (world_at plan es) (world_at plan fs) (keeps_at plan es fs p) n x h

  -- the messages after the step at a place
  added_at : (es : List Entry) (k : ℕ) (e : Entry) → IsRun plan es → slice_get es k ≡ Some e → (world_at plan (take (suc k) es)).messages ≡ added e.made (world_at plan (take k es)).messages
  added_at es k e run h = grind (arith, common_steps, take_more, world_at-push, messages_grow, (take_more es k e h), (world_at-push plan (take k es) e))

  -- the message at a place of the step at a place has this number
  pub made_numbered : (es : List Entry) (k index : ℕ) (x : Message) (e : Entry) → IsRun plan es → slice_get es k ≡ Some e → slice_get e.made index ≡ Some x → numbered (world_at plan es).messages (e.first + index + 1) ≡ Some x
  made_numbered es k index x e run h here =
      let goes = run k e h in
      let kept = (world_at plan (take k es)).messages in
      let there : numbered (world_at plan (take (suc k) es)).messages (e.first + index + 1) ≡ Some x = grind (arith, common_steps, (added_at es k e run h), (numbered_added e.made kept index x here)) in
      numbered_later (take (suc k) es) es (take_begins es (suc k)) (e.first + index + 1) x there

  -- a message that an entry names was made before it
  pub names_before : (es : List Entry) → IsRun plan es → (k : ℕ) (e : Entry) (n : ℕ) → slice_get es k ≡ Some e → named_by e.event ≡ Some n → n ≤ before plan es k
  names_before es run k e n at is = named_before plan (world_at plan (take k es)) e.event e.made n (run k e at).0 is

  -- a message that is not there was made by no entry
  pub none_made : (es : List Entry) (number k : ℕ) (e : Entry) → IsRun plan es → slice_get es k ≡ Some e → numbered (world_at plan es).messages number ≡ None → e.first < number → number ≤ e.first + length e.made → ⊥
  none_made es number k e run at none low high =
      let index = number - e.first - 1 in
      let lt : index < length e.made = omega arith in
      let x = get_there e.made index lt in
      let there = made_numbered es k index x.0 e run at x.1 in
      let same : e.first + index + 1 ≡ number = omega arith in
      absurd (cc (ap (numbered (world_at plan es).messages) (sym same) ∙ there, none))
