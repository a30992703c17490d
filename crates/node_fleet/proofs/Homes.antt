-- Something stands in the slot of each node that a plan names, and in no other.
use Rattle.std.proofs.Common.{◌≡◌, ℕ, zero, suc, ◌*◌, ◌/◌, ◌%◌, ◌<◌, ◌≤◌, Bool, true, false, ◌&&◌, nat_lt, List, [], ◌∷◌, ◌++◌, Option, Some, None, is_some, length, refl, sym, ap, subst, arith, slice_get, le-ltb}
use Rattle.std.proofs.lemmas.Bool.Decides.{nat_tests}
use Rattle.volume_model.specs.Common.{some_below, Plan, has_member, is_named}
use Rattle.world.specs.Slots.{slot_of, in_slot}
use Rattle.world.proofs.OneNode.{in_place}
use Rattle.world.proofs.Steps.{LowFor}

none_past : {A : Type 0} (xs : List A) (i : ℕ) → slice_get xs i ≡ None → length xs ≤ i
none_past [] i e = omega arith
none_past (x ∷ xs) zero e = absurd cc
none_past (x ∷ xs) (suc i) e = let rest = none_past xs i e in omega arith

-- something stands where the plan names the node
abbrev pub IsHome : {A : Type 0} → Plan → ℕ → Option A → Type 0
IsHome plan k m = is_some m ≡ is_named plan (k / 64) (k % 64)

-- the same of each place
abbrev pub AreHomes : {A : Type 0} → Plan → List (Option A) → Type 0
AreHomes {A} plan ms = (k : ℕ) (m : Option A) → slice_get ms k ≡ Some m → IsHome plan k m

module _ {A : Type 0} (plan : Plan) (ms : List (Option A)) (long : length ms ≡ plan.groups * 64) (low : LowFor plan) (homes : AreHomes plan ms) where
  within : (g m : ℕ) → m < 64 → (found : Option (Option A)) → slice_get ms (slot_of g m) ≡ found → is_some (in_slot found) ≡ is_named plan g m
  within g m below None e =
      let past = none_past ms (slot_of g m) e in
      let beyond : plan.groups ≤ g = omega arith in
      sym (ap (λ (b : Bool). b && some_below (plan.configurations g) (λ c. has_member (plan.configuration g c) m)) (le-ltb g plan.groups beyond))
  within g m below (Some o) e =
      let p = in_place g m below in
      let home : IsHome plan (slot_of g m) o = homes (slot_of g m) o e in
      subst (λ (n : ℕ). is_some o ≡ is_named plan n m) p.0 (subst (λ (n : ℕ). is_some o ≡ is_named plan (slot_of g m / 64) n) p.1 home)

  pub has_nodes : (g m : ℕ) → (nat_lt m 64 && is_some (in_slot (slice_get ms (slot_of g m)))) ≡ is_named plan g m
  has_nodes g m =
      elim (nat_lt m 64) as (λ (b : Bool). nat_lt m 64 ≡ b → (b && is_some (in_slot (slice_get ms (slot_of g m)))) ≡ is_named plan g m) [
        | true ↦ λ t. let below : m < 64 = grind (arith, nat_tests) in within g m below (slice_get ms (slot_of g m)) refl
        | false ↦ λ t. let above : 64 ≤ m = grind (arith, nat_tests) in sym (low g m above)
      ] refl

-- one more place
pub homes_push : {A : Type 0} (plan : Plan) (ms : List (Option A)) (m : Option A) → AreHomes plan ms → IsHome plan (length ms) m → AreHomes plan (ms ++ m ∷ [])
homes_push plan ms m homes home k x e = if_last ms m k x e (homes k x) (λ at is. subst (λ (o : Option _). IsHome plan k o) is (subst (λ (n : ℕ). IsHome plan n m) (sym at) home))
  where
    if_last : {B P : Type 0} (xs : List B) (y : B) (i : ℕ) (z : B) → slice_get (xs ++ y ∷ []) i ≡ Some z → (slice_get xs i ≡ Some z → P) → (i ≡ length xs → y ≡ z → P) → P
    if_last [] y zero z e old new = new refl (let same : y ≡ z = cc in same)
    if_last [] y (suc i) z e old new = absurd cc
    if_last (x ∷ xs) y zero z e old new = old e
    if_last (x ∷ xs) y (suc i) z e old new = if_last xs y i z e old (λ at. new (ap suc at))
