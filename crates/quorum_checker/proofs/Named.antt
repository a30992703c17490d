-- A formula depends on the members that it names.
use Rattle.std.proofs.Common.{◌≡◌, ◌∙◌, ℕ, ◌+◌, ◌<◌, Bool, true, false, refl, sym, ap, inl, inr, arith, ◌⊎◌, ◌||◌, nat_eq, nat_lt, nat_le, if◌then◌else◌}
use Rattle.std.specs.Ordering.{nat_cmp}
use Rattle.std.specs.Cmp.{nat_cmp_total}
use Rattle.std.specs.FinSet.{FinSet, empty, insert, union, contains, contains-empty, contains-union}
use Rattle.std.proofs.lemmas.Bool.Decides.{nat_tests}
use Rattle.volume_model.specs.Common.{Formula, Children, Members, at_least, no_child, child, sat, weight_held}
use Rattle.volume_model.specs.Formula.{member}
use Rattle.volume_model.proofs.Sets.{contains-put}
use Rattle.quorum_checker.specs.Naming.{named, named_by}

abbrev none_of : FinSet nat_cmp
none_of = empty

abbrev only : Bool → ℕ → FinSet nat_cmp
only b x = if b then insert empty x else empty

or_left : (p q : Bool) → p ≡ true → (p || q) ≡ true
or_left true q h = refl
or_left false q h = absurd cc

or_right : (p q : Bool) → q ≡ true → (p || q) ≡ true
or_right true q h = refl
or_right false q h = h

pub in_union_left : (s t : FinSet nat_cmp) (x : ℕ) → contains s x ≡ true → contains (union s t) x ≡ true
in_union_left s t x h = contains-union nat_cmp_total s t x ∙ or_left (contains s x) (contains t x) h

pub in_union_right : (s t : FinSet nat_cmp) (x : ℕ) → contains t x ≡ true → contains (union s t) x ≡ true
in_union_right s t x h = contains-union nat_cmp_total s t x ∙ or_right (contains s x) (contains t x) h

keeps : (of : Children) (s : FinSet nat_cmp) (x : ℕ) → contains s x ≡ true → contains (named_by of s) x ≡ true
keeps no_child s x h = h
keeps (child w f fs) s x h = keeps fs (union s (named f)) x (in_union_left s (named f) x h)

itself : (x : ℕ) → (nat_eq x x || contains none_of x) ≡ true
itself x = or_left (nat_eq x x) (contains none_of x) (grind (arith, nat_tests))

-- two sets that agree on what a formula names, and above all members, satisfy it alike
mutual
  pub sat-named : (f : Formula) (s t : Members) → ((x : ℕ) → contains (named f) x ≡ true → s x ≡ t x) → ((x : ℕ) → nat_lt x 64 ≡ false → s x ≡ t x) → sat f s ≡ sat f t
  sat-named (member x) s t same above =
      elim (nat_lt x 64) as (λ b. nat_lt x 64 ≡ b → s x ≡ t x) [
        | true ↦ λ h. same x (ap (λ (b : Bool). contains (only b x) x) h ∙ contains-put none_of x x ∙ itself x)
        | false ↦ λ h. above x h
      ] refl
  sat-named (at_least k of) s t same above = ap (nat_le k) (weight_held-named of empty s t same above)

  weight_held-named : (of : Children) (u : FinSet nat_cmp) (s t : Members) → ((x : ℕ) → contains (named_by of u) x ≡ true → s x ≡ t x) → ((x : ℕ) → nat_lt x 64 ≡ false → s x ≡ t x) → weight_held of s ≡ weight_held of t
  weight_held-named no_child u s t same above = refl
  weight_held-named (child w f fs) u s t same above =
      let one : sat f s ≡ sat f t = sat-named f s t (λ x h. same x (keeps fs (union u (named f)) x (in_union_right u (named f) x h))) above in
      let others : weight_held fs s ≡ weight_held fs t = weight_held-named fs (union u (named f)) s t same above in
      λ i. (if one i then w else 0) + others i

-- ---- what a formula names is below 64

false_true : false ≡ true → ⊥
false_true e = cc

in_either : (s t : FinSet nat_cmp) (x : ℕ) → contains (union s t) x ≡ true → (contains s x ≡ true) ⊎ (contains t x ≡ true)
in_either s t x h = of (contains s x) (contains t x) (sym (contains-union nat_cmp_total s t x) ∙ h)
  where
    of : (p q : Bool) → (p || q) ≡ true → (p ≡ true) ⊎ (q ≡ true)
    of true q h = inl refl
    of false q h = inr h

one_below : (k x : ℕ) → k < 64 → contains (insert none_of k) x ≡ true → x < 64
one_below k x low h = is_one (sym (contains-put none_of k x ∙ ap (λ b. nat_eq x k || b) (contains-empty nat_cmp x)) ∙ h)
  where
    is_one : (nat_eq x k || false) ≡ true → x < 64
    is_one e = grind (arith, nat_tests, low, e)

mutual
  pub named-below : (f : Formula) (x : ℕ) → contains (named f) x ≡ true → x < 64
  named-below (member k) x h =
      elim (nat_lt k 64) as (λ b. nat_lt k 64 ≡ b → contains (only b k) x ≡ true → x < 64) [
        | true ↦ λ e h'. let low : k < 64 = grind (arith, nat_tests, e) in one_below k x low h'
        | false ↦ λ e h'. absurd (false_true (sym (contains-empty nat_cmp x) ∙ h'))
      ] refl h
  named-below (at_least k of) x h = elim (named_by-below of empty x h) [
    | inl is ↦ absurd (false_true (sym (contains-empty nat_cmp x) ∙ is))
    | inr low ↦ low
  ]

  named_by-below : (of : Children) (s : FinSet nat_cmp) (x : ℕ) → contains (named_by of s) x ≡ true → (contains s x ≡ true) ⊎ (x < 64)
  named_by-below no_child s x h = inl h
  named_by-below (child w f fs) s x h = elim (named_by-below fs (union s (named f)) x h) [
    | inl is ↦ elim (in_either s (named f) x is) [
      | inl first ↦ inl first
      | inr own ↦ inr (named-below f x own)
    ]
    | inr low ↦ inr low
  ]
