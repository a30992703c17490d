-- A set with one member more.
use Rattle.std.proofs.Common.{◌≡◌, ℕ, ap, ◌∙◌, ◌||◌, nat_eq}
use Rattle.std.specs.Ordering.{nat_cmp}
use Rattle.std.specs.FinSet.{FinSet, insert, contains, contains-insert}
use Rattle.std.specs.Cmp.{nat_cmp_total, unsigned_tied}

pub contains-put : (s : FinSet nat_cmp) (k x : ℕ) → contains (insert s k) x ≡ (nat_eq x k || contains s x)
contains-put s k x = contains-insert nat_cmp_total s k x ∙ ap (λ b. b || contains s x) (unsigned_tied x k)
