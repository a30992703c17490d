-- Weights that words give to members.
use Rattle.std.proofs.Common.{◌≡◌, ◌∙◌, ◌<◌, ◌⊎◌, inl, inr, ap, sym, subst, arith, ℕ, Result, Ok, Err, IfOk, List, true, length, take, take_all, replicate, get_or}
use Rattle.std.proofs.lemmas.Bool.{cases_eq, cases_lt}
use Rattle.std.proofs.lemmas.List.{get_or-replicate, get_or_past, length-replicate}
use Rattle.std.specs.List.{position_or_len, before_first, after_first}
use Rattle.std.specs.Ordering.{nat_cmp}
use Rattle.std.specs.FinSet.{FinSet, contains}
use Rattle.plan_edit.specs.Words.{AddsPair, AddsWeights, AreWeights, IsPair, Weighs, is_comma, is_equals}
use Rattle.plan_edit.specs.Words.Weighs.{first_pair, later_pair}
use Rattle.plan_edit.specs.declared.word_reading.Weights.{Weights}
use Rattle.plan_edit.specs.declared.word_reading.WordFault.{WordFault}
use Rattle.plan_edit.proofs.Spans.{same_number}

-- equal weights, and that weight for each other number
pub ones : (m : ℕ) → ◌≡◌ {A = ℕ} (get_or (replicate 64 1) m 1) 1
ones m = elim (cases_lt m 64) [
  | inl within ↦ get_or-replicate 64 m 1 1 within
  | inr past ↦ get_or_past (replicate 64 1) m 1 (omega (arith, length-replicate {A = ℕ} 64 1, past))
]

-- what is so of the first pair and of those behind its comma is so of each weight
weighed_by : (P : Type 0) (text : List ℕ) (m w : ℕ) → (IsPair (before_first is_comma text) m w → P) → (position_or_len is_comma text < length text → Weighs (after_first is_comma text) m w → P) → Weighs text m w → P
weighed_by P text m w first rest (first_pair t n x is) = first is
weighed_by P text m w first rest (later_pair t n x comma is) = rest comma is

-- the member of a pair has its weight
given : (word : List ℕ) (old new : FinSet nat_cmp) (before after : List ℕ) (m w : ℕ) → AddsPair word old before new after → IsPair word m w → (contains new m ≡ true) × (get_or after m 1 ≡ w)
given word old new before after m w adds is =
    let same : adds.member ≡ m = same_number (before_first is_equals word) adds.member m adds.pair.front is.front in
    let weighs : adds.weight ≡ w = same_number (after_first is_equals word) adds.weight w adds.pair.back is.back in
    (subst (λ x. contains new x ≡ true) same adds.has, subst (λ x. get_or after x 1 ≡ w) same (adds.is ∙ weighs))

-- a member that had a weight isn't the pair's
other_than : (word : List ℕ) (old new : FinSet nat_cmp) (before after : List ℕ) (m : ℕ) → AddsPair word old before new after → contains old m ≡ true → get_or after m 1 ≡ get_or before m 1
other_than word old new before after m adds had = adds.others m (λ same. adds.was (subst (λ x. contains old x ≡ true) same had))

-- each member weighs what it did, or the pair gives it its weight
only_by : (word : List ℕ) (old new : FinSet nat_cmp) (before after : List ℕ) (m : ℕ) → AddsPair word old before new after → (get_or after m 1 ≡ get_or before m 1) ⊎ IsPair word m (get_or after m 1)
only_by word old new before after m adds = elim (cases_eq m adds.member) [
  | inl same ↦ inr (subst (λ x. IsPair word x (get_or after x 1)) (sym same) (subst (IsPair word adds.member) (sym adds.is) adds.pair))
  | inr apart ↦ inl (adds.others m apart)
]

-- the only pair
pub weighs_last : (text : List ℕ) (old : FinSet nat_cmp) (before : List ℕ) (r : Result Weights WordFault) → position_or_len is_comma text ≡ length text → IfOk r (λ (w : Weights). AddsPair text old before w.members w.of)
    → IfOk r (λ (w : Weights). AddsWeights text old before w.of)
weighs_last text old before (Err fault) none adds = tt
weighs_last text old before (Ok new) none adds =
    let same : before_first is_comma text ≡ text = ap (λ n. take n text) none ∙ take_all (length text) text (omega arith) in
    record {
      kept = λ m had. other_than text old new.members before new.of m adds had;
      all = λ m w is. weighed_by (get_or new.of m 1 ≡ w) text m w (λ first. (given text old new.members before new.of m w adds (subst (λ t. IsPair t m w) same first)).1) (λ comma rest. absurd (omega (arith, none, comma))) is;
      only = λ m. elim (only_by text old new.members before new.of m adds) [
        | inl was ↦ inl was
        | inr is ↦ inr (first_pair text m (get_or new.of m 1) (subst (λ t. IsPair t m (get_or new.of m 1)) (sym same) is))
      ];
    }

-- the first pair, and then those behind its comma
pub weighs_more : (text : List ℕ) (old mid : FinSet nat_cmp) (before between : List ℕ) (r : Result Weights WordFault) → position_or_len is_comma text < length text → AddsPair (before_first is_comma text) old before mid between
    → IfOk r (λ (w : Weights). AddsWeights (after_first is_comma text) mid between w.of) → IfOk r (λ (w : Weights). AddsWeights text old before w.of)
weighs_more text old mid before between (Err fault) comma first rest = tt
weighs_more text old mid before between (Ok new) comma first rest = record {
  kept = λ m had. rest.kept m (first.keeps m had) ∙ other_than (before_first is_comma text) old mid before between m first had;
  all = λ m w is. weighed_by (get_or new.of m 1 ≡ w) text m w
      (λ pair. let both = given (before_first is_comma text) old mid before between m w first pair in rest.kept m both.0 ∙ both.1)
      (λ comma later. rest.all m w later) is;
  only = λ m. elim (rest.only m) [
    | inr later ↦ inr (later_pair text m (get_or new.of m 1) comma later)
    | inl was ↦ elim (only_by (before_first is_comma text) old mid before between m first) [
      | inl same ↦ inl (was ∙ same)
      | inr pair ↦ inr (first_pair text m (get_or new.of m 1) (subst (IsPair (before_first is_comma text) m) (sym was) pair))
    ]
  ];
}

-- weights that are added to none
pub weighs_all : (text : List ℕ) (old : FinSet nat_cmp) (before : List ℕ) (r : Result Weights WordFault) → ((m : ℕ) → get_or before m 1 ≡ 1) → IfOk r (λ (w : Weights). AddsWeights text old before w.of) → IfOk r (λ (w : Weights). AreWeights text w.of)
weighs_all text old before (Err fault) all_one adds = tt
weighs_all text old before (Ok new) all_one adds = record {
  all = adds.all;
  only = λ m. elim (adds.only m) [
    | inl same ↦ inl (same ∙ all_one m)
    | inr is ↦ inr is
  ];
}
