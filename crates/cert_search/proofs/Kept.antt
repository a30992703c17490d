-- The shortest certificates are kept.
use Rattle.std.proofs.Common.{◌≡◌, ℕ, ◌+◌, ◌-◌, ◌<◌, ◌≤◌, List, [], ◌∷◌, ◌++◌, map, length, drop, get_or, refl, ap, sym, ◌∙◌, inl, inr, subst, add-one, drop-cons, arith, Bool, true, false, None, Option, Some, if◌then◌else◌, nat_le, slice_get, slice_set}
use Rattle.std.proofs.lemmas.Bool.{cases_eq}
use Rattle.std.proofs.lemmas.List.{append_assoc, append-nil, drop_all, length-set}
use Rattle.std.proofs.lemmas.Option.{get_or_from_slice_get, slice_get_within}
use Rattle.std.specs.declared.alloc.Global.{Global}
use Rattle.refutation.specs.declared.certificate.Certificate.{Certificate}
use Rattle.refutation.specs.Common.{Rule}
use Rattle.cert_search.specs.Answers.{rule_in}
use Rattle.cert_search.specs.Kept.{AreKept, kept_at, length_up_to}
use Rattle.cert_search.specs.Lengths.{length_in}
use Rattle.cert_search.proofs.Places.{elsewhere, here}
use Rattle.cert_search.proofs.Rows.{map_at, map_from, map_len, set_other, some_is}

-- the lengths of certificates, of which one stands in front of those that are left
pub lengths_more : (cs : List (Option (Certificate Global))) (i : ℕ) (c : Option (Certificate Global)) (ls more all : List ℕ) (long : ℕ) → i < length cs → c ≡ get_or cs i c → more ≡ ls ++ long ∷ [] → long ≡ length_in (rule_in c)
    → ls ++ map length_in (map rule_in (drop i cs)) ≡ all → more ++ map length_in (map rule_in (drop (i + 1) cs)) ≡ all
lengths_more cs i c ls more all long within is pushed long_is so_far =
    let rest = map length_in (map rule_in (drop (i + 1) cs)) in
    let split : drop i cs ≡ c ∷ drop (i + 1) cs = drop-cons cs i c within ∙ rw (← is, add-one) refl in
    let first : map length_in (map rule_in (drop i cs)) ≡ long ∷ rest = ap (λ xs. map length_in (map rule_in xs)) split ∙ ap (λ n. n ∷ rest) (sym long_is) in
    ap (λ xs. xs ++ rest) pushed ∙ (append_assoc ls (long ∷ []) rest ∙ (ap (λ xs. ls ++ xs) (sym first) ∙ so_far))

pub lengths_all : (cs : List (Option (Certificate Global))) (i : ℕ) (ls all : List ℕ) → length cs ≤ i → ls ++ map length_in (map rule_in (drop i cs)) ≡ all → ls ≡ all
lengths_all cs i ls all past so_far = sym (append-nil ls) ∙ (ap (λ xs. ls ++ map length_in (map rule_in xs)) (sym (drop_all i cs past)) ∙ so_far)

-- what stands below a number was kept or dropped, and what stands from there on is as it was
pub record KeptTo (room : ℕ) (lengths : List ℕ) (at : ℕ) (olds news : List (Option (Certificate Global))) : Type 0 where
  pub as_many : length news ≡ length olds
  pub before : (i : ℕ) (old left : Option (Certificate Global)) → i < at → slice_get olds i ≡ Some old → slice_get news i ≡ Some left → rule_in left ≡ kept_at room lengths i (rule_in old)
  pub rest : (i : ℕ) → at ≤ i → slice_get news i ≡ slice_get olds i

length_at : (lengths : List ℕ) (olds : List (Option (Certificate Global))) (at : ℕ) (old : Option (Certificate Global)) → lengths ≡ map length_in (map rule_in olds) → slice_get olds at ≡ Some old → get_or lengths at 0 ≡ length_in (rule_in old)
length_at lengths olds at old are there =
    get_or_from_slice_get lengths at (length_in (rule_in old)) 0 (ap (λ (ls : List ℕ). slice_get ls at) are ∙ map_at length_in (map rule_in olds) at (rule_in old) (map_at rule_in olds at old there))

by_test : (room : ℕ) (lengths : List ℕ) (at long : ℕ) (rule : Option Rule) (stays : Bool) → long ≡ length_in rule → stays ≡ nat_le (length_up_to long at 0 lengths) room → (if stays then rule else None) ≡ kept_at room lengths at rule
by_test room lengths at long rule stays is test = ap (λ (b : Bool). if b then rule else None) (test ∙ ap (λ n. nat_le (length_up_to n at 0 lengths) room) is)

-- one more is kept
pub one_stays : (room : ℕ) (lengths : List ℕ) (at : ℕ) (olds news : List (Option (Certificate Global))) → KeptTo room lengths at olds news → lengths ≡ map length_in (map rule_in olds) → true ≡ nat_le (length_up_to (get_or lengths at 0) at 0 lengths) room
    → KeptTo room lengths (at + 1) olds news
one_stays room lengths at olds news to are test = record {
  as_many = to.as_many;
  before = λ i old left lt at_old at_new. elim (cases_eq i at) [
    | inl same ↦
        let there : slice_get olds at ≡ Some old = subst (λ j. slice_get olds j ≡ Some old) same at_old in
        let is : left ≡ old = some_is left old (sym at_new ∙ (to.rest i (omega (arith, same)) ∙ at_old)) in
        let kept : rule_in old ≡ kept_at room lengths at (rule_in old) = by_test room lengths at (get_or lengths at 0) (rule_in old) true (length_at lengths olds at old are there) test in
        ap rule_in is ∙ (kept ∙ ap (λ j. kept_at room lengths j (rule_in old)) (sym same))
    | inr other ↦ to.before i old left (omega (arith, lt, other)) at_old at_new
  ];
  rest = λ i le. to.rest i (omega (arith, le));
}

-- one more is dropped
pub one_goes : (room : ℕ) (lengths : List ℕ) (at : ℕ) (olds news : List (Option (Certificate Global))) → KeptTo room lengths at olds news → lengths ≡ map length_in (map rule_in olds) → false ≡ nat_le (length_up_to (get_or lengths at 0) at 0 lengths) room
    → KeptTo room lengths (at + 1) olds (slice_set news at None)
one_goes room lengths at olds news to are test = record {
  as_many = length-set news at None ∙ to.as_many;
  before = λ i old left lt at_old at_new. elim (cases_eq i at) [
    | inl same ↦
        let there : slice_get olds at ≡ Some old = subst (λ j. slice_get olds j ≡ Some old) same at_old in
        let is : None ≡ left = here news at None left (subst (λ j. slice_get (slice_set news at None) j ≡ Some left) same at_new) in
        let kept : None ≡ kept_at room lengths at (rule_in old) = by_test room lengths at (get_or lengths at 0) (rule_in old) false (length_at lengths olds at old are there) test in
        ap rule_in (sym is) ∙ (kept ∙ ap (λ j. kept_at room lengths j (rule_in old)) (sym same))
    | inr other ↦ to.before i old left (omega (arith, lt, other)) at_old (elsewhere news at i None left other at_new)
  ];
  rest = λ i le. untouched i (omega (arith, le)) ∙ to.rest i (omega (arith, le));
}
  where
    untouched : (i : ℕ) → at < i → slice_get (slice_set news at None) i ≡ slice_get news i
    untouched i lt = set_other news at i None (λ e. absurd (omega (arith, lt, e)))

-- one more was seen
pub one_seen : (room : ℕ) (lengths : List ℕ) (at : ℕ) (olds news more : List (Option (Certificate Global))) (stays : Bool) → KeptTo room lengths at olds news → lengths ≡ map length_in (map rule_in olds)
    → stays ≡ nat_le (length_up_to (get_or lengths at 0) at 0 lengths) room → more ≡ (if stays then news else slice_set news at None) → KeptTo room lengths (at + 1) olds more
one_seen room lengths at olds news more true to are test is = subst (KeptTo room lengths (at + 1) olds) (sym is) (one_stays room lengths at olds news to are test)
one_seen room lengths at olds news more false to are test is = subst (KeptTo room lengths (at + 1) olds) (sym is) (one_goes room lengths at olds news to are test)

-- all were seen
pub all_kept : (room : ℕ) (lengths : List ℕ) (at : ℕ) (olds news : List (Option (Certificate Global))) → KeptTo room lengths at olds news → lengths ≡ map length_in (map rule_in olds) → length olds ≤ at → AreKept room (map rule_in olds) (map rule_in news)
all_kept room lengths at olds news to are past = record {
  as_many = map_len rule_in news ∙ (to.as_many ∙ sym (map_len rule_in olds));
  each = λ i rule left at_old at_new.
      let old = map_from rule_in olds i rule at_old in
      let new = map_from rule_in news i left at_new in
      let kept = to.before i old.0 new.0 (omega (arith, slice_get_within olds i old.0 old.1, past)) old.1 new.1 in
      sym new.2 ∙ (kept ∙ (ap (λ r. kept_at room lengths i r) old.2 ∙ ap (λ (ls : List ℕ). kept_at room ls i rule) are));
}
