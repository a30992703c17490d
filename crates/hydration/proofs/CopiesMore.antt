-- Copies, one after the other.
use Rattle.std.proofs.Common.{◌≡◌, ℕ, ◌+◌, ◌<◌, Bool, List, ◌∷◌, length, drop, get_or, nat_eq, sym, ap, ap₂, ◌∙◌, arith, drop-cons, add-one, ◌||◌, Result, Ok, Err, IfOk, MatchResult}
use Rattle.std.proofs.lemmas.Bool.Decides.{nat_tests}
use Rattle.std.specs.Ordering.{nat_cmp}
use Rattle.std.specs.FinSet.{FinSet, contains, insert}
use Rattle.volume_model.proofs.Sets.{contains-put}
use Rattle.volume_model.specs.Lineage as model
use Rattle.volume_model.specs.Common.{senders}
use Rattle.lineage.specs.declared.lineage.Lineage.{Lineage}
use Rattle.lineage.specs.Lineage.{lineage_of}
use Rattle.hydration.specs.declared.copied.Copied.{Copied}
use Rattle.hydration.specs.Copies.{copy_of, copies_in}
use Rattle.std.proofs.lemmas.Grind.{common_steps}

-- the copy at hand, before the rest
rest_is : (copies : List Copied) (i : ℕ) (c : Copied) → i < length copies → c ≡ get_or copies i c → copies_in (drop i copies) ≡ copy_of c ∷ copies_in (drop (i + 1) copies)
rest_is copies i c within is = ap copies_in (drop-cons copies i c within) ∙ ap₂ (λ x n. copy_of x ∷ copies_in (drop n copies)) (sym is) (sym (add-one i))

joins : (x sender : ℕ) (a rest : Bool) → ((nat_eq x sender || a) || rest) ≡ (a || (nat_eq sender x || rest))
joins x sender a rest = grind (arith, nat_tests)

-- one sender more
pub senders-more : (copies : List Copied) (i : ℕ) (c : Copied) (s : FinSet nat_cmp) (whole : ℕ → Bool) → i < length copies → c ≡ get_or copies i c
    → ((x : ℕ) → (contains s x || senders (copies_in (drop i copies)) x) ≡ whole x)
    → (x : ℕ) → (contains (insert s c.from) x || senders (copies_in (drop (i + 1) copies)) x) ≡ whole x
senders-more copies i c s whole within is h x = grind (arith, common_steps, contains-put, joins, rest_is)

-- what a copy of a lineage is, where it could be made
pub copied : {E : Type 0} {lineage of : model.Lineage} (P : E → Type 0) (r : Result Lineage E) → lineage ≡ of → MatchResult r (λ copy. lineage_of copy ≡ lineage) P → IfOk r (λ copy. lineage_of copy ≡ of)
copied P (Ok copy) is h = h ∙ is
copied P (Err e) is h = tt
