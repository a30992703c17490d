-- A complete point is the greatest number of a grounded record
use Rattle.std.proofs.Common.{◌≡◌, ℕ, zero, suc, ◌<◌, ◌≤◌, max, true, ◌&&◌, ◌||◌, eqb, List, [], ◌∷◌, if◌then◌else◌, refl, sym, ap, subst, inl, inr, arith, le_refl}
use Rattle.std.proofs.lemmas.Bool.{and_parts, and_from, or_cases, or_left, or_right, true≢false, eqb-true, eq-eqb}
use Rattle.volume_model.specs.Common.{IsIn, Redo, grounded, greatest_grounded, IsGreatest, IsGrounded, IsGroundedNumber, GroupLinksFall, CompletePointIsGreatest, from_none, from_one}
use Rattle.volume_model.proofs.Basics.{any_passes, any_from}
use Rattle.volume_model.proofs.Greatest.{greatest_where, greatest-from}
use Rattle.std.proofs.lemmas.Grind.{common_steps}

-- a grounded record is one of the list
grounded_in : (records : List Redo) (r : Redo) → IsGrounded records r → IsIn r records
grounded_in records t (from_none r i e) = i
grounded_in records t (from_one r before i g e) = i

-- the number that the walk finds grounded is that of a grounded record
pub grounded_from : (records : List Redo) (steps n : ℕ) → grounded steps records n ≡ true → IsGroundedNumber records n
grounded_from records zero n h = absurd (true≢false (sym h))
grounded_from records (suc steps) n h =
    let (r, i, p) = any_passes (λ r. eqb r.lsn n && (eqb r.prev_group 0 || grounded steps records r.prev_group)) records h in
    let parts : (eqb r.lsn n ≡ true) × ((eqb r.prev_group 0 || grounded steps records r.prev_group) ≡ true) = and_parts _ _ p in
    let at : r.lsn ≡ n = eqb-true r.lsn n parts.0 in
    elim (or_cases (eqb r.prev_group 0) _ parts.1) [
      | inl z ↦ (r, from_none r i (eqb-true r.prev_group 0 z), at)
      | inr g ↦ (let (before, k, e) = grounded_from records steps r.prev_group g in (r, from_one r before i k e, at))
    ]

-- and the walk finds each such number, in as many steps
pub grounded_to : (records : List Redo) → GroupLinksFall records → (steps : ℕ) (r : Redo) → IsGrounded records r → r.lsn ≤ steps → grounded steps records r.lsn ≡ true
grounded_to records fall zero r g l = absurd (let k : r.prev_group < r.lsn = fall r (grounded_in records r g) in omega arith)
grounded_to records fall (suc steps) t (from_none r i e) l = grind (arith, common_steps, any_from, and_from, eq-eqb, or_left)
grounded_to records fall (suc steps) t (from_one r before i g e) l = grind (arith, common_steps, any_from, and_from, eq-eqb, or_right, (grounded_to records fall steps before g (omega arith)))

pub greatest_grounded-is : (records list : List Redo) → greatest_grounded records list ≡ greatest_where (λ r. grounded r.lsn records r.lsn) (λ r. r.lsn) list
greatest_grounded-is records [] = refl
greatest_grounded-is records (r ∷ rest) = ap (max (if grounded r.lsn records r.lsn then r.lsn else 0)) (greatest_grounded-is records rest)

pub complete_point_is_greatest : CompletePointIsGreatest
complete_point_is_greatest records fall =
    subst (IsGreatest (IsGroundedNumber records)) (sym (greatest_grounded-is records records))
    (greatest-from (λ r. grounded r.lsn records r.lsn) (λ r. r.lsn) records (IsGroundedNumber records)
    (λ r i h. grounded_from records r.lsn r.lsn h)
    (λ m p. (let (r, g, e) = p in (r, grounded_in records r g, grounded_to records fall r.lsn r g (le_refl r.lsn), le_of r.lsn m e))))
  where
    le_of : (n m : ℕ) → n ≡ m → m ≤ n
    le_of n m e = omega arith
