-- An equation between two plans has one proof at most, so that it can be a ghost field, `by { Prim.hlevel (props, Formula-set) }`.
use Rattle.std.proofs.Common.{◌≡◌, ◌&&◌, ◌==◌, Bool, true, false, refl, sym, ap, ap₂, ◌∙◌, ⊎_elim, true≢false, eqb-true, eq-eqb}
use Rattle.std.proofs.lemmas.Bool.{and_parts, and_from}
use Rattle.std.proofs.Props.{props}
use mathlib.Core.HLevel.{Stable-paths→set}
use Rattle.volume_model.specs.Common.{Formula, Children, at_least, no_child, child, Plan, Configuration}
use Rattle.volume_model.specs.Formula.{member}
use Rattle.volume_model.proofs.ListFacts.{by_test}

-- both are one expression
abbrev mutual
  same_formula : Formula → Formula → Bool
  same_formula (member x) (member y) = x == y
  same_formula (member x) (at_least k of) = false
  same_formula (at_least k of) (member y) = false
  same_formula (at_least k of) (at_least l from) = k == l && same_children of from

  same_children : Children → Children → Bool
  same_children no_child no_child = true
  same_children no_child (child w f fs) = false
  same_children (child w f fs) no_child = false
  same_children (child w f fs) (child v g gs) = w == v && (same_formula f g && same_children fs gs)

mutual
  formula_is : (f g : Formula) → same_formula f g ≡ true → f ≡ g
  formula_is (member x) (member y) h = ap member (eqb-true x y h)
  formula_is (member x) (at_least k of) h = absurd (true≢false (sym h))
  formula_is (at_least k of) (member y) h = absurd (true≢false (sym h))
  formula_is (at_least k of) (at_least l from) h =
      let p = and_parts (k == l) (same_children of from) h in
      ap₂ at_least (eqb-true k l p.0) (children_are of from p.1)

  children_are : (fs gs : Children) → same_children fs gs ≡ true → fs ≡ gs
  children_are no_child no_child h = refl
  children_are no_child (child w f fs) h = absurd (true≢false (sym h))
  children_are (child w f fs) no_child h = absurd (true≢false (sym h))
  children_are (child w f fs) (child v g gs) h =
      let p = and_parts (w == v) (same_formula f g && same_children fs gs) h in
      let q = and_parts (same_formula f g) (same_children fs gs) p.1 in
      ap (λ n. child n f fs) (eqb-true w v p.0) ∙ ap₂ (child v) (formula_is f g q.0) (children_are fs gs q.1)

mutual
  formula_same : (f : Formula) → same_formula f f ≡ true
  formula_same (member x) = eq-eqb x x refl
  formula_same (at_least k of) = and_from (k == k) (same_children of of) (eq-eqb k k refl) (children_same of)

  children_same : (fs : Children) → same_children fs fs ≡ true
  children_same no_child = refl
  children_same (child w f fs) =
      and_from (w == w) (same_formula f f && same_children fs fs) (eq-eqb w w refl) (and_from (same_formula f f) (same_children fs fs) (formula_same f) (children_same fs))

pub Formula-set : IsSet Formula
Formula-set = Stable-paths→set (λ f g not_apart. ⊎_elim
    (λ (same : same_formula f g ≡ true). formula_is f g same)
    (λ (apart : same_formula f g ≡ false). absurd (not_apart (λ (e : f ≡ g). true≢false (sym (formula_same f) ∙ ap (same_formula f) e ∙ apart))))
    (by_test (same_formula f g)))

pub Configuration-set : IsSet Configuration
Configuration-set = hlevel (props, Formula-set)

pub Plan-set : IsSet Plan
Plan-set = hlevel (props, Configuration-set)
