-- Members by their numbers, one after the other.
use Rattle.std.proofs.Common.{◌≡◌, ℕ, ◌+◌, ◌<◌, ◌≤◌, Bool, List, ◌∷◌, length, drop, get_or, nat_eq, nat_lt, ◌&&◌, sym, ap, ap₂, ◌∙◌, arith, drop-cons, add-one, ◌||◌}
use Rattle.std.proofs.lemmas.Bool.Decides.{nat_tests}
use Rattle.std.specs.Ordering.{nat_cmp}
use Rattle.std.specs.FinSet.{FinSet, contains, insert}
use Rattle.volume_model.proofs.Sets.{contains-put}
use Rattle.volume_c.specs.Advances.{among}

-- the number at hand, before the rest
rest_is : (members : List ℕ) (i m : ℕ) → i < length members → m ≡ get_or members i 0 → drop i members ≡ m ∷ drop (i + 1) members
rest_is members i m within is = drop-cons members i 0 within ∙ ap₂ (λ x n. x ∷ drop n members) (sym is) (sym (add-one i))

joins : (x m : ℕ) (a rest : Bool) → m < 64 → ((nat_eq x m || a) || rest) ≡ (a || ((nat_lt m 64 && nat_eq m x) || rest))
joins x m a rest low = grind (arith, nat_tests)

stays : (x m : ℕ) (a rest : Bool) → 64 ≤ m → (a || rest) ≡ (a || ((nat_lt m 64 && nat_eq m x) || rest))
stays x m a rest high = grind (arith, nat_tests)

-- one member more
pub members-joins : (members : List ℕ) (i m : ℕ) (s : FinSet nat_cmp) (whole : ℕ → Bool) → i < length members → m ≡ get_or members i 0 → m < 64
    → ((x : ℕ) → (contains s x || among (drop i members) x) ≡ whole x)
    → (x : ℕ) → (contains (insert s m) x || among (drop (i + 1) members) x) ≡ whole x
members-joins members i m s whole within is low h x =
    ap (λ b. b || among (drop (i + 1) members) x) (contains-put s m x)
    ∙ joins x m (contains s x) (among (drop (i + 1) members) x) low
    ∙ sym (ap (λ l. contains s x || among l x) (rest_is members i m within is)) ∙ h x

-- a number that is no member's
pub members-stays : (members : List ℕ) (i m : ℕ) (s : FinSet nat_cmp) (whole : ℕ → Bool) → i < length members → m ≡ get_or members i 0 → 64 ≤ m
    → ((x : ℕ) → (contains s x || among (drop i members) x) ≡ whole x)
    → (x : ℕ) → (contains s x || among (drop (i + 1) members) x) ≡ whole x
members-stays members i m s whole within is high h x =
    stays x m (contains s x) (among (drop (i + 1) members) x) high
    ∙ sym (ap (λ l. contains s x || among l x) (rest_is members i m within is)) ∙ h x
