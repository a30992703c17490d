-- Reading plans.
use Rattle.std.specs.Prelude.{◌≡◌, ◌≢◌, ℕ, List, Option, None, Ok}
use Rattle.plan.specs.Common.{plan_of, plan_fault, plan_data, checked_model}
use Rattle.plan.specs.declared.checked.CheckedPlan.{CheckedPlan}
use Rattle.volume_c.specs.declared.actor.Held.{Held}
use Rattle.volume_c.specs.View.{APlan, seen}

-- the handle holds the plan of the text, which has no fault
abbrev pub HoldsPlan : List ℕ → Option Held → Type 0
HoldsPlan text held = (plan : CheckedPlan) × (seen held ≡ APlan (checked_model plan))
    × (plan_of text ≡ Ok (plan_data plan.plan)) × (plan_fault (plan_data plan.plan) ≡ None)

-- Status 0: such a plan is in the handle, which was empty. Any other: the handle is unchanged.
abbrev pub ReadsPlan : List ℕ → ℕ → Option Held → Option Held → Type 0
ReadsPlan text status old new = (status ≡ 0 → HoldsPlan text new) × (status ≢ 0 → new ≡ old)
