-- What the search answers, and the plan that is written with it.
use Rattle.std.proofs.Common.{◌≡◌, ◌∙◌, ap, sym, subst, inl, inr, refl, ℕ, suc, ◌<◌, Bool, true, false, List, [], ◌∷◌, Option, Some, None, Ok, is_none, if◌then◌else◌, get_or, length, arith, slice_get}
use Rattle.std.proofs.lemmas.Option.{slice_get-get_or, slice_get_within}
use Rattle.std.specs.List.{list_any}
use Rattle.refutation.specs.Common.{Rule}
use Rattle.quorum_checker.specs.Refutes.{Refutes}
use Rattle.plan.specs.Common.{PlacedClaim, claims_in, PlanData, plan_of, AreShown, with_certificates, rewritten}
use Rattle.cert_search.specs.Answers.{AreAnswers}
use Rattle.cert_search.specs.Kept.{AreKept}
use Rattle.commands.specs.Searched.{AreFitted}

-- what is kept is what was found
kept_is : (stays : Bool) (rule : Option Rule) (r : Rule) → Some r ≡ (if stays then rule else None) → rule ≡ Some r
kept_is true rule r e = sym e
kept_is false rule r e = absurd cc

-- each rule refutes the claim at its place
abbrev EachRefutes : List PlacedClaim → List (Option Rule) → Type 0
EachRefutes claims rules = (i : ℕ) (c : PlacedClaim) (r : Rule) → slice_get claims i ≡ Some c → slice_get rules i ≡ Some (Some r) → Refutes r c.claim

found_refutes : (claims : List PlacedClaim) (rules : List (Option Rule)) (budget : ℕ) → AreAnswers budget claims rules → EachRefutes claims rules
found_refutes claims rules budget found i c r at_claim at_rule = (found.each i c (Some r) at_claim at_rule).refutes

kept_refutes : (budget room : ℕ) (claims : List PlacedClaim) (found kept : List (Option Rule)) → AreAnswers budget claims found → AreKept room found kept → EachRefutes claims kept
kept_refutes budget room claims found kept are shortest i c r at_claim at_kept =
    let inside : i < length found = omega (arith, slice_get_within kept i (Some r) at_kept, shortest.as_many) in
    let rule : Option Rule = get_or found i None in
    let there : slice_get found i ≡ Some rule = slice_get-get_or found i None inside in
    let is : rule ≡ Some r = kept_is _ rule r (shortest.each i rule (Some r) there at_kept) in
    found_refutes claims found budget are i c r at_claim (there ∙ ap Some is)

fitted_refutes : (budget : ℕ) (text : List ℕ) (claims : List PlacedClaim) (found kept : List (Option Rule)) → AreAnswers budget claims found → AreFitted text found kept → (length kept ≡ length claims) × EachRefutes claims kept
fitted_refutes budget text claims found kept are (inl (line, of, short, same)) = (ap length same ∙ are.as_many, subst (EachRefutes claims) (sym same) (found_refutes claims found budget are))
fitted_refutes budget text claims found kept are (inr (line, room, of, long, beside, shortest)) = (shortest.as_many ∙ are.as_many, kept_refutes budget room claims found kept are shortest)

-- what is kept for all claims refutes them
pub all_shown : (budget : ℕ) (text : List ℕ) (claims : List PlacedClaim) (found rules : List (Option Rule)) → AreAnswers budget claims found → AreFitted text found rules → list_any (λ rule. is_none rule) rules ≡ false → AreShown claims rules
all_shown budget text claims found rules are fitted whole = let each = fitted_refutes budget text claims found rules are fitted in shown_from claims rules each.0 each.1 whole
  where
    shown_from : (claims : List PlacedClaim) (rules : List (Option Rule)) → length rules ≡ length claims → EachRefutes claims rules → list_any (λ rule. is_none rule) rules ≡ false → AreShown claims rules
    shown_from [] rules many each whole = tt
    shown_from (c ∷ cs) [] many each whole = absurd (omega arith)
    shown_from (c ∷ cs) (None ∷ rules) many each whole = absurd cc
    shown_from (c ∷ cs) (Some r ∷ rules) many each whole =
        (each 0 c r refl refl, shown_from cs rules (omega arith) (λ i d x at_claim at_rule. each (suc i) d x at_claim at_rule) whole)

-- the plan of a text with other certificates, where it has claims
pub rewritten-is : (text : List ℕ) (plan : PlanData) (claims : List PlacedClaim) (rules : List (Option Rule)) → plan_of text ≡ Ok plan → claims_in plan ≡ Ok claims → rewritten text rules ≡ Ok (with_certificates plan rules)
unfolding rewritten
rewritten-is text plan claims rules read listed = rw (read, listed) refl
