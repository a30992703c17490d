-- A plan names no member whose number isn't below 64.
use Rattle.std.proofs.Common.{◌≡◌, ℕ, zero, suc, ◌≤◌, Bool, true, false, ◌&&◌, ◌||◌, nat_eq, if◌then◌else◌, List, [], ◌∷◌, ◌++◌, refl, ap, ap₂, arith}
use Rattle.std.proofs.lemmas.Bool.Decides.{nat_tests}
use Rattle.volume_model.specs.Common.{any, some_below, each_below, is_named}
use Rattle.plan.specs.Common.{PlanData, model_of}
use Rattle.std.proofs.lemmas.Grind.{common_steps}
use Rattle.std.proofs.Common.{rules}

any-append : (test : ℕ → Bool) (xs ys : List ℕ) → any test xs ≡ false → any test ys ≡ false → any test (xs ++ ys) ≡ false
any-append test [] ys a b = b
any-append test (x ∷ xs) ys a b = grind (arith, common_steps)

any-one : (test : ℕ → Bool) (b : Bool) (n : ℕ) → test n ≡ false → any test (if b then n ∷ [] else []) ≡ false
any-one test true n h = ap (λ (t : Bool). t || false) h
any-one test false n h = refl

none_listed : (n x : ℕ) (among : ℕ → Bool) → n ≤ x → any (λ y. nat_eq y x) (each_below n among (λ y. y)) ≡ false
none_listed zero x among h = refl
none_listed (suc n) x among h = grind (arith, common_steps, nat_eq, nat_tests, any-append, any-one, (none_listed n x among (omega arith)))

none_below : (n : ℕ) (test : ℕ → Bool) → ((k : ℕ) → test k ≡ false) → some_below n test ≡ false
none_below zero test h = refl
none_below (suc n) test h = ap₂ (λ (p q : Bool). p || q) (h n) (none_below n test h)

never : (b c : Bool) → c ≡ false → (b && c) ≡ false
never true c h = h
never false c h = refl

pub is_low : (plan : PlanData) (group member : ℕ) → 64 ≤ member → is_named (model_of plan) group member ≡ false
is_low plan group member h = search (rules, never, none_below, none_listed)
