-- The records with a chain down to 0, collected in order.
use Rattle.std.proofs.Common.{◌≡◌, ℕ, ◌<◌, ◌≤◌, ◌⊎◌, true, false, List, [], ◌∷◌, ◌++◌, Option, Some, None, is_some, option_map, refl, sym, ap, ◌∙◌, subst, inl, inr, arith, true≢false}
use Rattle.std.specs.Borrow.{Bor}
use Rattle.volume_model.specs.Common.{IsIn, Redo, spelling, numbers_before, record_at, scl, IsGrounded, IsGroundedNumber, GroupLinksFall, from_none, from_one}
use Rattle.volume_model.proofs.Basics.{IsIn-append, IsIn-append_left, IsIn-append_right}
use Rattle.volume_model.proofs.Chains.{record_at-some, record_at-there}
use Rattle.redo_record.specs.Common.{IsInOrder, ComesAfter, shared_redo}
use Rattle.redo_record.specs.declared.shared_record.SharedRecord.{SharedRecord}
use Rattle.redo_record.proofs.Before.{IsBefore}
use Rattle.redo_record.proofs.Finding.{lsn-rises}
use Rattle.redo_record.proofs.Places.{IsOrdered, ordered-from}
use Rattle.segment_core.specs.Chains.{IsLinkedTo}
use Rattle.segment_core.proofs.Chained.{point_is}

-- The records but those that are left are read, and those of them that are grounded are collected.
pub record IsCounted (all left grounded : List Redo) (point : ℕ) : Type 0 where
  pub within : (r : Redo) → IsIn r left → IsIn r all
  pub ordered : IsOrdered left
  pub after : (r : Redo) → IsIn r left → ComesAfter grounded r
  pub only : (r : Redo) → IsIn r grounded → IsGrounded all r
  pub each : (r : Redo) → IsGrounded all r → IsIn r grounded ⊎ IsIn r left
  pub is_one : (point ≡ 0) ⊎ IsGroundedNumber all point
  pub most : (r : Redo) → IsIn r grounded → r.lsn ≤ point

own : (records : List Redo) (r : Redo) → IsGrounded records r → IsIn r records
own records t (from_none r i e) = i
own records t (from_one r before i g e) = i

-- a record links to 0, or to the one that is found by the number before it
pub linked-found : (grounded : List Redo) (r : Redo) (n : ℕ) (found : Option (Bor SharedRecord)) → n ≡ r.prev_group → option_map (λ packet. shared_redo packet.now) found ≡ record_at grounded n → is_some found ≡ true → IsLinkedTo grounded r
linked-found grounded r n None at same some = absurd (true≢false (sym some))
linked-found grounded r n (Some packet) at same some = let (i, e) = record_at-some grounded n (shared_redo packet.now) (sym same) in inr (shared_redo packet.now, i, e ∙ at)

pub linked-not : (grounded : List Redo) (r : Redo) (n : ℕ) (found : Option (Bor SharedRecord)) → n ≡ r.prev_group → option_map (λ packet. shared_redo packet.now) found ≡ record_at grounded n → is_some found ≡ false → (n ≡ 0 → ⊥) → IsLinkedTo grounded r → ⊥
linked-not grounded r n found at same none some (inl z) = some (at ∙ z)
linked-not grounded r n (Some packet) at same none some (inr p) = true≢false none
linked-not grounded r n None at same none some (inr p) =
    let (s, i, e) = p in
    let (t, there) = record_at-there grounded s i in
    none-some (record_at grounded s.lsn) t (same ∙ ap (record_at grounded) (at ∙ sym e)) there
  where
    none-some : (found : Option Redo) (s : Redo) → None ≡ found → found ≡ Some s → ⊥
    none-some found s h e = cc

-- nothing is read
pub counted-none : (all : List Redo) → IsInOrder all → IsCounted all all [] 0
counted-none all order = record {
  within = λ r i. i;
  ordered = ordered-from all order;
  after = λ r i s j. absurd j;
  only = λ r i. absurd i;
  each = λ r g. inr (own all r g);
  is_one = inl refl;
  most = λ r i. absurd i;
}

before-true : (r s : Redo) → IsBefore r s → numbers_before (spelling r) (spelling s) ≡ true
unfolding IsBefore
before-true r s h = h

module _ (all rest grounded : List Redo) (r : Redo) (point : ℕ) (counted : IsCounted all (r ∷ rest) grounded point) where
  -- a record is read that links to one of them
  pub counted-linked : IsLinkedTo grounded r → IsCounted all rest (grounded ++ r ∷ []) r.lsn
  counted-linked linked = record {
    within = λ s i. counted.within s (inr i);
    ordered = counted.ordered.1;
    after = λ s i t j. elim (in_either t j) [
      | inl k ↦ counted.after s (inr i) t k
      | inr e ↦ subst (λ (q : Redo). numbers_before (spelling q) (spelling s) ≡ true) (sym e) (before-true r s (counted.ordered.0 s i))
    ];
    only = λ t j. elim (in_either t j) [ inl k ↦ counted.only t k | inr e ↦ subst (IsGrounded all) (sym e) lands ];
    each = λ t g. elim (counted.each t g) [ inl k ↦ inl (IsIn-append_left grounded (r ∷ []) t k) | inr i ↦ elim i [ inl e ↦ inl (subst (λ (q : Redo). IsIn q (grounded ++ r ∷ [])) (sym e) (IsIn-append_right grounded (r ∷ []) r (inl refl))) | inr k ↦ inr k ] ];
    is_one = inr (r, lands, refl);
    most = λ t j. elim (in_either t j) [
      | inl k ↦ lsn-rises t r (counted.after r (inl refl) t k)
      | inr e ↦ subst (λ (q : Redo). q.lsn ≤ r.lsn) (sym e) (omega arith)
    ];
  }
    where
      in_either : (t : Redo) → IsIn t (grounded ++ r ∷ []) → IsIn t grounded ⊎ (t ≡ r)
      in_either t i = elim (IsIn-append grounded (r ∷ []) t i) [ inl j ↦ inl j | inr j ↦ elim j [ inl e ↦ inr e | inr k ↦ absurd k ] ]

      lands : IsGrounded all r
      lands = elim linked [
        | inl z ↦ from_none r (counted.within r (inl refl)) z
        | inr p ↦ (let (b, i, e) = p in from_one r b (counted.within r (inl refl)) (counted.only b i) e)
      ]

  -- one is read that links to none of them
  pub counted-apart : r.prev_group < r.lsn → (IsLinkedTo grounded r → ⊥) → IsCounted all rest grounded point
  counted-apart fall apart = record {
    within = λ s i. counted.within s (inr i);
    ordered = counted.ordered.1;
    after = λ s i. counted.after s (inr i);
    only = counted.only;
    each = λ t g. elim (counted.each t g) [ inl k ↦ inl k | inr i ↦ elim i [ inl e ↦ absurd (off t g e) | inr k ↦ inr k ] ];
    is_one = counted.is_one;
    most = counted.most;
  }
    where
      later : (b : Redo) → IsIn b (r ∷ rest) → r.lsn ≤ b.lsn
      later b (inl e) = subst (λ (q : Redo). r.lsn ≤ q.lsn) (sym e) (omega arith)
      later b (inr i) = lsn-rises r b (before-true r b (counted.ordered.0 b i))

      off : (t : Redo) → IsGrounded all t → t ≡ r → ⊥
      off t (from_none q i z) e = apart (inl (subst (λ (s : Redo). s.prev_group ≡ 0) e z))
      off t (from_one q b i g f) e =
          let at : b.lsn ≡ r.prev_group = f ∙ ap (λ (s : Redo). s.prev_group) e in
          elim (counted.each b g) [
            | inl k ↦ apart (inr (b, k, at))
            | inr k ↦ (let l : r.lsn ≤ b.lsn = later b k in omega arith)
          ]

-- all are read
pub counted-all : (all left grounded : List Redo) (point : ℕ) → GroupLinksFall all → IsCounted all left grounded point → left ≡ [] → point ≡ scl all
counted-all all left grounded point fall counted none = point_is all point fall (record {
  is_one = counted.is_one;
  at_least_each = λ n p. let (r, g, e) = p in subst (λ (k : ℕ). k ≤ point) e (elim (counted.each r g) [
    | inl i ↦ counted.most r i
    | inr i ↦ absurd (subst (IsIn r) none i)
  ]);
})
