-- Complete points with one record more.
use Rattle.std.proofs.Common.{◌≡◌, ℕ, ◌<◌, ◌≤◌, List, refl, ap, ◌∙◌, subst, inl, inr, arith}
use Rattle.volume_model.specs.Common.{Redo, scl, with_record, IsGreatest, IsGrounded, IsGroundedNumber, GroupLinksFall, from_none, from_one}
use Rattle.volume_model.proofs.Grounded.{complete_point_is_greatest}
use Rattle.volume_model.proofs.Records.{with_record-keeps, with_record-from}

pub fewer_fall : (r : Redo) (records : List Redo) → GroupLinksFall (with_record r records) → GroupLinksFall records
fewer_fall r records fall q i = fall q (with_record-keeps r records q i)

-- the greatest of the same numbers is the same
pub one_greatest : (P Q : ℕ → Type 0) (a b : ℕ) → ((n : ℕ) → P n → Q n) → ((n : ℕ) → Q n → P n) → IsGreatest P a → IsGreatest Q b → a ≡ b
one_greatest P Q a b to from p q =
    let l : a ≤ b = elim p.is_one [ inl z ↦ omega arith | inr h ↦ q.at_least_each a (to a h) ] in
    let m : b ≤ a = elim q.is_one [ inl z ↦ omega arith | inr h ↦ p.at_least_each b (from b h) ] in
    omega arith

-- what is greatest of the grounded numbers is the complete point
pub point_is : (records : List Redo) (point : ℕ) → GroupLinksFall records → IsGreatest (IsGroundedNumber records) point → point ≡ scl records
point_is records point fall is = one_greatest (IsGroundedNumber records) (IsGroundedNumber records) point (scl records) (λ n p. p) (λ n p. p) is (complete_point_is_greatest records fall)

module _ (r : Redo) (records : List Redo) where
  keeps : (q : Redo) → IsGrounded records q → IsGrounded (with_record r records) q
  keeps t (from_none q i e) = from_none q (with_record-keeps r records q i) e
  keeps t (from_one q before i g e) = from_one q before (with_record-keeps r records q i) (keeps before g) e

  -- a record that links above the complete point leaves it
  module _ (fall : GroupLinksFall (with_record r records)) (above : scl records < r.prev_group) where
    far : (n : ℕ) → IsGroundedNumber records n → n ≡ r.prev_group → ⊥
    far n p e = let l : n ≤ scl records = (complete_point_is_greatest records (fewer_fall r records fall)).at_least_each n p in omega arith

    still : (q : Redo) → IsGrounded (with_record r records) q → IsGrounded records q
    still t (from_none q i e) = elim (with_record-from r records q i) [
      | inl p ↦ absurd (let z : r.prev_group ≡ 0 = subst (λ (s : Redo). s.prev_group ≡ 0) p e in omega arith)
      | inr j ↦ from_none q j e
    ]
    still t (from_one q before i g e) = elim (with_record-from r records q i) [
      | inl p ↦ absurd (far before.lsn (before, still before g, refl) (e ∙ ap (λ (s : Redo). s.prev_group) p))
      | inr j ↦ from_one q before j (still before g) e
    ]

    pub scl-above : scl records ≡ scl (with_record r records)
    scl-above =
        one_greatest (IsGroundedNumber records) (IsGroundedNumber (with_record r records)) (scl records) (scl (with_record r records))
        (λ n p. let (q, g, e) = p in (q, keeps q g, e)) (λ n p. let (q, g, e) = p in (q, still q g, e))
        (complete_point_is_greatest records (fewer_fall r records fall)) (complete_point_is_greatest (with_record r records) fall)
