-- The turns of a segment.
use Rattle.std.proofs.Common.{◌≡◌, ℕ, false, true, List, [], ◌∷◌, ◌++◌, Option, Some, None, Result, Ok, Err, IfOk, sym, ap, ◌∙◌, subst, is_some, slice_get, true≢false}
use Rattle.std.proofs.lemmas.List.{map-append}
use Rattle.volume_model.specs.Common.{Gives, NodeStep, Plan}
use Rattle.volume_model.specs.Message as model
use Rattle.volume_model.specs.declared.fault.Fault.{Fault}
use Rattle.wire.specs.declared.message.Message.{Message}
use Rattle.wire.specs.Common.{message_of, messages_of}
use Rattle.message_bytes.proofs.Fields.{IsBytes}
use Rattle.segment_core.specs.declared.segment.Segment.{Segment}
use Rattle.segment_core.specs.Segment.{segment_plan, segment_group, segment_member, IsSameActor}
use Rattle.volume_c.specs.Joined.{covers, joined}
use Rattle.volume_c.specs.Frames.{framed, next_in, TookFront}
use Rattle.volume_c.specs.Turns.{TookOwn}
use Rattle.volume_c.proofs.Turns.{join-apart, join-covers, next-found}

-- what is read stands in front
pub is-next : {X : Type 0} (view : X → model.Message × List ℕ) (bytes : List ℕ) (r : Result X Fault) → IsBytes bytes → Gives view r (next_in bytes)
    → IfOk r (λ x. bytes ≡ framed (view x).0 ++ (view x).1)
is-next view bytes (Ok x) fits given = next-found bytes (view x) fits given
is-next view bytes (Err fault) fits given = tt

-- ---- answers that wait

some-is : (x y : Message) → Some x ≡ Some y → x ≡ y
some-is x y e = cc

none-is-some : (x : Message) → None ≡ Some x → ⊥
none-is-some x e = true≢false (sym (ap (λ (o : Option Message). is_some o) e))

pub stays-apart : (ws : List Message) (x : Message) (answers : List Message) (a : Message) → slice_get answers 0 ≡ Some a → covers (message_of a) (message_of x) ≡ false
    → joined (messages_of (ws ++ x ∷ [])) (messages_of answers) ≡ messages_of (ws ++ x ∷ []) ++ messages_of answers
stays-apart ws x [] a first e = absurd (none-is-some a first)
stays-apart ws x (b ∷ rest) a first e =
    let same : covers (message_of b) (message_of x) ≡ false = ap (λ m. covers (message_of m) (message_of x)) (some-is b a first) ∙ e in
    let parts : messages_of (ws ++ x ∷ []) ≡ messages_of ws ++ message_of x ∷ [] = map-append message_of ws (x ∷ []) in
    ap (λ u. joined u (messages_of (b ∷ rest))) parts ∙ join-apart (messages_of ws) (message_of x) (message_of b) (messages_of rest) same ∙ ap (λ u. u ++ messages_of (b ∷ rest)) (sym parts)

pub goes-covered : (ws : List Message) (x : Message) (answers : List Message) (a : Message) → slice_get answers 0 ≡ Some a → covers (message_of a) (message_of x) ≡ true
    → joined (messages_of (ws ++ x ∷ [])) (messages_of answers) ≡ messages_of ws ++ messages_of answers
goes-covered ws x [] a first e = absurd (none-is-some a first)
goes-covered ws x (b ∷ rest) a first e =
    let same : covers (message_of b) (message_of x) ≡ true = ap (λ m. covers (message_of m) (message_of x)) (some-is b a first) ∙ e in
    let parts : messages_of (ws ++ x ∷ []) ≡ messages_of ws ++ message_of x ∷ [] = map-append message_of ws (x ∷ []) in
    ap (λ u. joined u (messages_of (b ∷ rest))) parts ∙ join-covers (messages_of ws) (message_of x) (message_of b) (messages_of rest) same

-- ---- the same segment

pub same-trans : (s t u : Segment) → IsSameActor s t → IsSameActor t u → IsSameActor s u
same-trans s t u p q = record { plan_is = q.plan_is ∙ p.plan_is; group_is = q.group_is ∙ p.group_is; member_is = q.member_is ∙ p.member_is }

module _ (s t : Segment) (same : IsSameActor s t) where
  moved : (P : Plan → ℕ → ℕ → Type 0) → P (segment_plan t) (segment_group t) (segment_member t) → P (segment_plan s) (segment_group s) (segment_member s)
  moved P h =
      subst (λ m. P (segment_plan s) (segment_group s) m) same.member_is
      (subst (λ g. P (segment_plan s) g (segment_member t)) same.group_is
      (subst (λ p. P p (segment_group t) (segment_member t)) same.plan_is h))

  pub own-took : (bytes rest : List ℕ) (before after : NodeStep) → TookOwn t bytes rest before after → TookOwn s bytes rest before after
  own-took bytes rest before after h = moved (λ p g m. TookFront p g m bytes rest before after) h
