-- The numbers of a word.
use Rattle.std.proofs.Common.{◌≡◌, ◌∙◌, ◌<◌, ◌≤◌, ◌⊎◌, inl, inr, ap, sym, subst, arith, ℕ, ◌+◌, Result, Ok, Err, IfOk, List, true, length, nat_eq, eq-eqb, take, take_all}
use Rattle.std.proofs.lemmas.Bool.{cases_lt, eqb-true, false≢true, or_cases, or_left, or_right}
use Rattle.std.specs.List.{position_or_len, before_first, after_first}
use Rattle.std.specs.Ordering.{nat_cmp}
use Rattle.std.specs.FinSet.{FinSet, contains, contains-empty, empty, insert}
use Rattle.volume_model.proofs.Sets.{contains-put}
use Rattle.plan_edit.specs.Words.{AddsNamed, AddsText, AreNamed, IsSpelled, IsWithin, Names, is_comma}
use Rattle.plan_edit.specs.declared.word_reading.WordFault.{WordFault}
use Rattle.plan_edit.specs.Words.Names.{first_word, later_word}

-- a text is one number only
pub same_number : (text : List ℕ) (m n : ℕ) → IsSpelled text m → IsSpelled text n → m ≡ n
same_number text m n one two = one.1 ∙ sym two.1

-- the members of the new set are those of the old one and those from the first to the last below a number
pub record AddsBelow (first last n : ℕ) (old new : FinSet nat_cmp) : Type 0 where
  pub kept : (member : ℕ) → contains old member ≡ true → contains new member ≡ true
  pub all : (member : ℕ) → first ≤ member → member ≤ last → member < n → contains new member ≡ true
  pub only : (member : ℕ) → contains new member ≡ true → (contains old member ≡ true) ⊎ ((first ≤ member) × (member ≤ last) × (member < n))

-- a set with one member more
one_more : (s : FinSet nat_cmp) (n m : ℕ) → contains (insert s n) m ≡ true → (m ≡ n) ⊎ (contains s m ≡ true)
one_more s n m is = elim (or_cases (nat_eq m n) (contains s m) (sym (contains-put s n m) ∙ is)) [
  | inl same ↦ inl (eqb-true m n same)
  | inr old ↦ inr old
]

pub has_new : (s : FinSet nat_cmp) (n m : ℕ) → m ≡ n → contains (insert s n) m ≡ true
has_new s n m same = contains-put s n m ∙ or_left (nat_eq m n) (contains s m) (eq-eqb m n same)

pub has_old : (s : FinSet nat_cmp) (n m : ℕ) → contains s m ≡ true → contains (insert s n) m ≡ true
has_old s n m is = contains-put s n m ∙ or_right (nat_eq m n) (contains s m) is

-- one more number, which is added
pub adds_one : (first last n : ℕ) (old new : FinSet nat_cmp) → first ≤ n → n ≤ last → AddsBelow first last n old new → AddsBelow first last (n + 1) old (insert new n)
adds_one first last n old new least most h = record {
  kept = λ m is. has_old new n m (h.kept m is);
  all = λ m from to below. elim (cases_lt m n) [
    | inl less ↦ has_old new n m (h.all m from to less)
    | inr more ↦ has_new new n m (omega (arith, below, more))
  ];
  only = λ m is. elim (one_more new n m is) [
    | inl same ↦ inr (omega (arith, same, least), omega (arith, same, most), omega (arith, same))
    | inr was ↦ elim (h.only m was) [
      | inl old_one ↦ inl old_one
      | inr within ↦ inr (within.0, within.1, omega (arith, within.2))
    ]
  ];
}

-- one more number, which isn't: it is above the last one
pub adds_no_more : (first last n : ℕ) (old new : FinSet nat_cmp) → last < n → AddsBelow first last n old new → AddsBelow first last (n + 1) old new
adds_no_more first last n old new above h = record {
  kept = h.kept;
  all = λ m from to below. h.all m from to (omega (arith, to, above));
  only = λ m is. elim (h.only m is) [
    | inl old_one ↦ inl old_one
    | inr within ↦ inr (within.0, within.1, omega (arith, within.2))
  ];
}

-- what is so of the first word and of those behind its comma is so of each name
named_by : (P : Type 0) (text : List ℕ) (m : ℕ) → (IsWithin (before_first is_comma text) m → P) → (position_or_len is_comma text < length text → Names (after_first is_comma text) m → P) → Names text m → P
named_by P text m first rest (first_word t n within) = first within
named_by P text m first rest (later_word t n comma named) = rest comma named

-- the members of the first word, and then those of the text behind its comma
pub adds_more : (text : List ℕ) (old mid : FinSet nat_cmp) (r : Result (FinSet nat_cmp) WordFault) → position_or_len is_comma text < length text → AddsNamed (before_first is_comma text) old mid
    → IfOk r (AddsText (after_first is_comma text) mid) → IfOk r (AddsText text old)
adds_more text old mid (Err fault) comma first rest = tt
adds_more text old mid (Ok new) comma first rest = record {
  kept = λ m is. rest.kept m (first.kept m is);
  all = λ m named. named_by (contains new m ≡ true) text m (λ within. rest.kept m (first.all m within)) (λ comma named. rest.all m named) named;
  only = λ m is. elim (rest.only m is) [
    | inl was ↦ elim (first.only m was) [
      | inl old_one ↦ inl old_one
      | inr within ↦ inr (first_word text m within)
    ]
    | inr named ↦ inr (later_word text m comma named)
  ];
}

-- the members of the only word
pub adds_last : (text : List ℕ) (old : FinSet nat_cmp) (r : Result (FinSet nat_cmp) WordFault) → position_or_len is_comma text ≡ length text → IfOk r (AddsNamed text old) → IfOk r (AddsText text old)
adds_last text old (Err fault) none adds = tt
adds_last text old (Ok new) none adds =
    let same : before_first is_comma text ≡ text = ap (λ n. take n text) none ∙ take_all (length text) text (omega arith) in
    record {
      kept = adds.kept;
      all = λ m named. named_by (contains new m ≡ true) text m (λ within. adds.all m (subst (λ w. IsWithin w m) same within)) (λ comma named. absurd (omega (arith, none, comma))) named;
      only = λ m is. elim (adds.only m is) [
        | inl was ↦ inl was
        | inr within ↦ inr (first_word text m (subst (λ w. IsWithin w m) (sym same) within))
      ];
    }

-- the members that are added to none
pub adds_all : (text : List ℕ) (r : Result (FinSet nat_cmp) WordFault) → IfOk r (AddsText text empty) → IfOk r (AreNamed text)
adds_all text (Err fault) adds = tt
adds_all text (Ok new) adds = record {
  all = adds.all;
  only = λ m is. elim (adds.only m is) [
    | inl none ↦ absurd (false≢true (sym (contains-empty nat_cmp m) ∙ none))
    | inr named ↦ named
  ];
}
