-- A group with one configuration.
use Rattle.std.proofs.Common.{◌≡◌, Bool, true, List, [], ◌∷◌, Result, Ok, Err, length, map, get_or, refl, subst, arith, IfOk}
use Rattle.volume_model.specs.declared.fault.Fault.{Fault}
use Rattle.plan.specs.declared.configurations.Configuration.{Configuration}
use Rattle.plan.specs.Common.{configuration_data}
use Rattle.plan_edit.specs.declared.plan_words.PlanWords.{PlanWords}
use Rattle.plan_edit.specs.NewPlans.{HasRoot, IsRoot}

-- its only configuration is the one that is asked for
pub rooted : (result : Result Bool Fault) (words : PlanWords) (xs : List Configuration) (x : Configuration) → length xs ≡ 1 → x ≡ get_or xs 0 x
    → IfOk result (λ b. b ≡ true → IsRoot words (configuration_data x)) → IfOk result (λ b. b ≡ true → HasRoot words (map configuration_data xs))
rooted (Err fault) words xs x one is root = tt
rooted (Ok b) words [] x one is root = absurd (omega (arith, one))
rooted (Ok b) words (y ∷ []) x one is root = λ yes. record {
  one = refl;
  root = subst (λ (z : Configuration). IsRoot words (configuration_data z)) is (root yes);
}
rooted (Ok b) words (y ∷ z ∷ zs) x one is root = absurd (omega (arith, one))
