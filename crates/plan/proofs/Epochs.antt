-- The epoch of a child is one more than its parent's.
use Rattle.std.proofs.Common.{◌≡◌, ℕ, zero, suc, ◌<◌, ◌≤◌, List, arith, refl, ap, ◌∙◌, sym, Option, Some, None}
use Rattle.plan.specs.PlanData.{ConfigurationData, configuration_at, earlier, parent_at, by_parent, epoch_within, epoch_at}
use Rattle.std.proofs.lemmas.Grind.{common_steps}

-- an earlier parent stands before
pub earlier-below : (c : ℕ) (q : Option ℕ) (p : ℕ) → earlier c q ≡ Some p → p < c
earlier-below c None p h = absurd (cc)
earlier-below c (Some r) p h = grind (arith, common_steps)

no-earlier : (q : Option ℕ) → earlier 0 q ≡ None
no-earlier None = refl
no-earlier (Some p) = grind (arith, common_steps)

epoch-root : (n : ℕ) (group : List ConfigurationData) → epoch_within n group 0 ≡ 1
epoch-root zero group = refl
epoch-root (suc n) group = ap (λ q. by_parent q 1 (λ p. suc (epoch_within n group p))) (no-earlier (configuration_at group 0).parent)

-- any number of steps that is large enough gives the epoch
epoch-steps : (m n : ℕ) (group : List ConfigurationData) (c : ℕ) → c ≤ m → c ≤ n → epoch_within m group c ≡ epoch_within n group c
epoch-steps m n group zero h k = epoch-root m group ∙ sym (epoch-root n group)
epoch-steps zero n group (suc c) h k = absurd (omega arith)
epoch-steps (suc m) zero group (suc c) h k = absurd (omega arith)
epoch-steps (suc m) (suc n) group (suc c) h k =
    elim (parent_at group (suc c)) as (λ q. ((p : ℕ) → q ≡ Some p → p < suc c) → by_parent q 1 (λ p. suc (epoch_within m group p)) ≡ by_parent q 1 (λ p. suc (epoch_within n group p))) [
      | None ↦ λ below. refl
      | Some p ↦ λ below. ap suc (epoch-steps m n group p (omega (arith, below p refl)) (omega (arith, below p refl)))
    ] (λ p is. earlier-below (suc c) (configuration_at group (suc c)).parent p is)

pub epoch-next : (group : List ConfigurationData) (c p : ℕ) → parent_at group c ≡ Some p → p < c → epoch_at group c ≡ suc (epoch_at group p)
epoch-next group zero p is below = absurd (omega arith)
epoch-next group (suc c) p is below = grind (arith, common_steps, epoch-steps)
