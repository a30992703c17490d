-- Steps that stand in a journal, and the last number of each actor.
use Rattle.std.proofs.Common.{◌≡◌, ℕ, suc, ◌+◌, Bool, true, false, List, [], ◌∷◌, ◌++◌, length, take, None, sym, ap, ◌∙◌, subst, length-append, arith, MatchBool, if◌then◌else◌}
use mathlib.Core.List.{IsPrefix}
use Rattle.volume_model.specs.Common.{numbered, Plan, after, Actor, actor_of, same_actor, world_at, last_of, IsRun}
use Rattle.volume_model.specs.Journal.{Entry}
use Rattle.volume_model.proofs.Fronts.{prefix_get, prefix_self}
use Rattle.volume_model.proofs.ListFacts.{get_within}
use Rattle.volume_model.proofs.Worlds.{take_prefix, take_long, get_last, world_at-push, last_of-push}
use Rattle.volume_model.proofs.FoundMessages as found
use Rattle.journal.specs.PassSteps.{durable_in, Made, made, Stands, IsElse}

module _ (plan : Plan) where
  -- a step that stands in a beginning stands in the whole
  pub stands_longer : (es fs : List Entry) (s : Made) → IsPrefix es fs → Stands plan es s → Stands plan fs s
  stands_longer es fs s p h =
      let within = get_within es s.entry s.at h.stands in
      record { stands = prefix_get es fs s.at s.entry p h.stands; durable = h.durable ∙ ap (λ (l : List Entry). durable_in (world_at plan l) s.entry.event) (take_prefix es fs (suc s.at) p (omega arith)) }

  -- the step of one entry more
  pub stands_last : (es : List Entry) (e : Entry) (durable : ℕ) → durable ≡ durable_in (after plan (world_at plan es) e.event) e.event → Stands plan (es ++ e ∷ []) (made (length es) e durable)
  stands_last es e durable is =
      let whole : take (suc (length es)) (es ++ e ∷ []) ≡ es ++ e ∷ [] =
      ap (λ n. take n (es ++ e ∷ [])) (let l : suc (length es) ≡ length (es ++ e ∷ []) = omega (arith, length-append es (e ∷ [])) in l) ∙ take_long (es ++ e ∷ []) (es ++ e ∷ []) (prefix_self (es ++ e ∷ [])) in
      record { stands = get_last es e; durable = is ∙ ap (λ w. durable_in w e.event) (sym (world_at-push plan es e)) ∙ ap (λ (l : List Entry). durable_in (world_at plan l) e.event) (sym whole) }

  -- the same, by other names
  pub stands_new : (es now : List Entry) (e x : Entry) (cell durable : ℕ) → now ≡ es ++ e ∷ [] → cell ≡ length es → x ≡ e → durable ≡ durable_in (after plan (world_at plan es) e.event) e.event → Stands plan now (made cell x durable)
  stands_new es now e x cell durable longer at same is =
      subst (λ (l : List Entry). Stands plan l (made cell x durable)) (sym longer)
      (subst (λ n. Stands plan (es ++ e ∷ []) (made n x durable)) (sym at)
      (subst (λ (y : Entry). Stands plan (es ++ e ∷ []) (made (length es) y durable)) (sym same) (stands_last es e durable is)))

  -- a message that is not there was made by no step that stands
  pub none_made : (es : List Entry) (number : ℕ) (s : Made) → IsRun plan es → Stands plan es s → numbered (world_at plan es).messages number ≡ None → IsElse number s
  none_made es number s run stands none = found.none_made plan es number s.at s.entry run stands.stands none

-- the last numbers after one entry more
pub newest_push : (actor other : Actor) (es now : List Entry) (e : Entry) (n cell : ℕ) → now ≡ es ++ e ∷ [] → actor ≡ actor_of e.event → cell ≡ length es
    → (b : Bool) → same_actor actor other ≡ b → MatchBool b (n ≡ cell + 1) (n ≡ last_of other es) → n ≡ last_of other now
newest_push actor other es now e n cell longer is at true same h =
    let here : same_actor (actor_of e.event) other ≡ true = ap (λ w. same_actor w other) (sym is) ∙ same in
    let last : last_of other (es ++ e ∷ []) ≡ suc (length es) = last_of-push other es e ∙ ap (λ (b : Bool). if b then suc (length es) else last_of other es) here in
    omega (arith, h, at, last, ap (last_of other) longer)
newest_push actor other es now e n cell longer is at false same h =
    let here : same_actor (actor_of e.event) other ≡ false = ap (λ w. same_actor w other) (sym is) ∙ same in
    let last : last_of other (es ++ e ∷ []) ≡ last_of other es = last_of-push other es e ∙ ap (λ (b : Bool). if b then suc (length es) else last_of other es) here in
    h ∙ sym last ∙ ap (last_of other) (sym longer)
