-- Places and the answers that come to them.
use Rattle.std.proofs.Common.{◌≡◌, ◌≢◌, ℕ, ◌+◌, ◌<◌, List, [], ◌∷◌, ◌++◌, length, get_or, refl, ap, inl, inr, ◌∙◌, sym, subst, arith, All, None, Option, Some, IfSome, slice_get, slice_set, if◌then◌else◌, Bool, true, false}
use Rattle.std.specs.declared.alloc.Global.{Global}
use Rattle.std.proofs.lemmas.Bool.{cases_eq}
use Rattle.std.proofs.lemmas.List.{get_or-set_same, get_or-set_other, get_or_append_left, get_or_push, length-append, length-set}
use Rattle.std.proofs.lemmas.List.Elements.{All-push}
use Rattle.std.proofs.lemmas.Option.{get_or_from_slice_get, slice_get-get_or, slice_get_read, slice_get_within}
use Rattle.refutation.specs.declared.certificate.Certificate.{Certificate}
use Rattle.refutation.specs.Common.{Rule}
use Rattle.plan.specs.Common.{PlacedClaim}
use Rattle.cert_search.specs.Answers.{rule_in, EachAnswers, IsAnswer}
use Rattle.cert_search.specs.Places.{ArePlaces, IsFound}
use Rattle.cert_search.specs.declared.working.Found.{Found}
use Rattle.cert_search.proofs.Rows.{some_is}

abbrev Answer : Type 0
Answer = Option (Certificate Global)

-- empty places have no answer to be wrong
pub empty : (budget : ℕ) (claims : List PlacedClaim) (places : List (Option Answer)) → length places ≡ length claims → All (λ p. p ≡ None) places → ArePlaces budget claims places
empty budget claims places long none = record {
  as_many = long;
  each = λ i c answer at_claim at_place. absurd (cc (none i None (slice_get_within places i (Some answer) at_place), get_or_from_slice_get places i (Some answer) None at_place));
}

-- what stands where nothing was written
pub elsewhere : {A : Type 0} (xs : List A) (j i : ℕ) (v x : A) → i ≢ j → slice_get (slice_set xs j v) i ≡ Some x → slice_get xs i ≡ Some x
elsewhere xs j i v x other h =
    let inside : i < length xs = omega (arith, slice_get_within (slice_set xs j v) i x h, length-set xs j v) in
    slice_get-get_or xs i x inside ∙ ap Some (sym (get_or-set_other xs j i v x other) ∙ get_or_from_slice_get (slice_set xs j v) i x x h)

-- what stands where it was written
pub here : {A : Type 0} (xs : List A) (i : ℕ) (v x : A) → slice_get (slice_set xs i v) i ≡ Some x → v ≡ x
here xs i v x h =
    let inside : i < length xs = omega (arith, slice_get_within (slice_set xs i v) i x h, length-set xs i v) in
    sym (get_or-set_same xs i v x inside) ∙ get_or_from_slice_get (slice_set xs i v) i x x h

-- an answer comes to the place of its claim
pub filled : (budget : ℕ) (claims : List PlacedClaim) (places : List (Option Answer)) (found : Found) → ArePlaces budget claims places → IsFound budget claims found → ArePlaces budget claims (slice_set places found.claim (Some found.answer))
filled budget claims places found are is = record {
  as_many = length-set places found.claim (Some found.answer) ∙ are.as_many;
  each = λ i c answer at_claim at_place. elim (cases_eq i found.claim) [
    | inl same ↦
        subst (λ a. IsAnswer budget c.claim (rule_in a)) (some_is found.answer answer (here places found.claim (Some found.answer) (Some answer) (subst (λ j. slice_get (slice_set places found.claim (Some found.answer)) j ≡ Some (Some answer)) same at_place)))
        (is c (subst (λ j. slice_get claims j ≡ Some c) same at_claim))
    | inr other ↦ are.each i c answer at_claim (elsewhere places found.claim i (Some found.answer) (Some answer) other at_place)
  ];
}

-- what stands at a place is found
pub taken : (budget : ℕ) (claims : List PlacedClaim) (places : List (Option Answer)) (at : ℕ) (out : Option Answer) → ArePlaces budget claims places → at < length places → out ≡ get_or places at out
    → IfSome out (λ answer. IsFound budget claims (record { claim = at; answer = answer }))
taken budget claims places at None are inside is = tt
taken budget claims places at (Some answer) are inside is = λ c at_claim. are.each at c answer at_claim (slice_get_read places (length places) at (Some answer) refl inside is)

-- a place is emptied
pub emptied : (budget : ℕ) (claims : List PlacedClaim) (places : List (Option Answer)) (at : ℕ) → ArePlaces budget claims places → ArePlaces budget claims (slice_set places at None)
emptied budget claims places at are = record {
  as_many = length-set places at None ∙ are.as_many;
  each = λ i c answer at_claim at_place. elim (cases_eq i at) [
    | inl same ↦ absurd (cc (here places at None (Some answer) (subst (λ j. slice_get (slice_set places at None) j ≡ Some (Some answer)) same at_place)))
    | inr other ↦ are.each i c answer at_claim (elsewhere places at i None (Some answer) other at_place)
  ];
}

-- one more, or none
pub added : {A : Type 0} (P : A → Type 0) (xs ys : List A) (x : A) (more : Bool) → ys ≡ (if more then xs ++ x ∷ [] else xs) → All P xs → P x → All P ys
added P xs ys x true is all here = subst (All P) (sym is) (All-push P xs x all here)
added P xs ys x false is all here = subst (All P) (sym is) all

-- one answer more, that of the next claim
pub one_more : (budget : ℕ) (claims : List PlacedClaim) (answers more : List (Option Rule)) (at : ℕ) (answer : Option Rule) → more ≡ answers ++ answer ∷ [] → length answers ≡ at → ((c : PlacedClaim) → slice_get claims at ≡ Some c → IsAnswer budget c.claim answer) → EachAnswers budget claims answers
    → EachAnswers budget claims more
one_more budget claims answers more at answer is long found each i c x at_claim at_answer =
    let there : get_or (answers ++ answer ∷ []) i x ≡ x = ap (λ xs. get_or xs i x) (sym is) ∙ get_or_from_slice_get more i x x at_answer in
    let inside : i < at + 1 = omega (arith, slice_get_within more i x at_answer, ap length is, length-append answers (answer ∷ []), long) in
    elim (cases_eq i at) [
      | inl same ↦ subst (IsAnswer budget c.claim) (sym (get_or_push answers answer x i (long ∙ sym same)) ∙ there) (found c (subst (λ j. slice_get claims j ≡ Some c) same at_claim))
      | inr other ↦
          let before : i < length answers = omega (arith, inside, other, long) in
          each i c x at_claim (slice_get_read answers (length answers) i x refl before (sym there ∙ get_or_append_left answers (answer ∷ []) x i before))
    ]
