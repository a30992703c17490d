-- The steps of the cases of members.
use Rattle.std.proofs.Common.{◌≡◌, ◌∙◌, ℕ, suc, ◌-◌, ◌<◌, ◌≤◌, true, false, List, [], ◌∷◌, refl, sym, ap, arith, length, take, drop, get_or}
use Rattle.std.specs.Ordering.{nat_cmp}
use Rattle.std.specs.FinSet.{FinSet, insert}
use Rattle.volume_model.specs.Common.{Formula, sat}
use Rattle.refutation.specs.Common.{Rule, dead, split}
use Rattle.refutation.specs.declared.Side.TheVariants.{Left, Right}
use Rattle.quorum_checker.specs.Cases.{Cases, refuted, apart, present, ends, both, cases}
use Rattle.std.proofs.lemmas.Grind.{common_steps}

take_all : (xs : List ℕ) → take (length xs) xs ≡ xs
take_all [] = refl
take_all (x ∷ xs) = ap (λ ys. x ∷ ys) (take_all xs)

one_less : (n : ℕ) → suc n - 1 ≡ n
one_less n = omega arith

-- a list that isn't empty, by its first element and the others
pub parts : (ms : List ℕ) → 1 ≤ length ms → ms ≡ get_or ms 0 0 ∷ take (length ms - 1) (drop 1 ms)
parts [] h = absurd (omega arith)
parts (x ∷ xs) h = ap (λ ys. x ∷ ys) (sym (ap (λ n. take n xs) (one_less (length xs)) ∙ take_all xs))

pub no_members : (ms : List ℕ) → length ms < 1 → ms ≡ []
no_members [] h = refl
no_members (x ∷ xs) h = absurd (omega arith)

pub opened : (ms : List ℕ) (f g : Formula) (a b : FinSet nat_cmp) → (rest : Cases) × (cases ms f g a b ≡ ends f g a b rest)
unfolding cases
opened [] f g a b = (apart a b, refl)
opened (x ∷ xs) f g a b = (both x (cases xs f g (insert a x) b) (cases xs f g a (insert b x)), refl)

pub left_dead : (ms : List ℕ) (f g : Formula) (a b : FinSet nat_cmp) → sat f (present a) ≡ false → refuted (dead Left 0) ≡ cases ms f g a b
left_dead ms f g a b fails = grind (arith, common_steps, (opened ms f g a b))

pub right_dead : (ms : List ℕ) (f g : Formula) (a b : FinSet nat_cmp) → sat f (present a) ≡ true → sat g (present b) ≡ false → refuted (dead Right 0) ≡ cases ms f g a b
right_dead ms f g a b holds fails = grind (arith, common_steps, (opened ms f g a b))

pub stopped : (ms : List ℕ) (f g : Formula) (a b : FinSet nat_cmp) → ms ≡ [] → sat f (present a) ≡ true → sat g (present b) ≡ true → apart a b ≡ cases ms f g a b
unfolding cases
stopped ms f g a b none holds too = grind (arith, common_steps)

pub stepped : (ms : List ℕ) (x : ℕ) (xs : List ℕ) (f g : Formula) (a b a' b' : FinSet nat_cmp) → ms ≡ x ∷ xs → sat f (present a) ≡ true → sat g (present b) ≡ true → a' ≡ insert a x → b' ≡ insert b x → both x (cases xs f g a' b) (cases xs f g a b') ≡ cases ms f g a b
unfolding cases
stepped ms x xs f g a b a' b' is holds too left right = grind (arith, common_steps)

pub left_apart : (ms : List ℕ) (x : ℕ) (xs : List ℕ) (f g : Formula) (a b a' p q : FinSet nat_cmp) → ms ≡ x ∷ xs → sat f (present a) ≡ true → sat g (present b) ≡ true → a' ≡ insert a x → apart p q ≡ cases xs f g a' b → apart p q ≡ cases ms f g a b
left_apart ms x xs f g a b a' p q is holds too left found = grind (arith, common_steps, (stepped ms x xs f g a b a' (insert b x) is holds too left refl))

pub right_apart : (ms : List ℕ) (x : ℕ) (xs : List ℕ) (f g : Formula) (a b a' b' p q : FinSet nat_cmp) (l : Rule) → ms ≡ x ∷ xs → sat f (present a) ≡ true → sat g (present b) ≡ true → a' ≡ insert a x → b' ≡ insert b x → refuted l ≡ cases xs f g a' b → apart p q ≡ cases xs f g a b' → apart p q ≡ cases ms f g a b
right_apart ms x xs f g a b a' b' p q l is holds too left right one found = grind (arith, common_steps, (stepped ms x xs f g a b a' b' is holds too left right))

pub both_refuted : (ms : List ℕ) (x : ℕ) (xs : List ℕ) (f g : Formula) (a b a' b' : FinSet nat_cmp) (l r : Rule) → ms ≡ x ∷ xs → sat f (present a) ≡ true → sat g (present b) ≡ true → a' ≡ insert a x → b' ≡ insert b x → refuted l ≡ cases xs f g a' b → refuted r ≡ cases xs f g a b' → refuted (split x l r) ≡ cases ms f g a b
both_refuted ms x xs f g a b a' b' l r is holds too left right one other = grind (arith, common_steps, (stepped ms x xs f g a b a' b' is holds too left right))
