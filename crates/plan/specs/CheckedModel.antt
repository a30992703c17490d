-- The plan of the model for a checked plan.
use Rattle.std.specs.Prelude.{◌≡◌, ◌≢◌, ℕ, ◌<◌, true, Option, Some, None, Result, Ok, Err}
use Rattle.std.specs.Borrow.{Bor}
use Rattle.volume_model.specs.Common.{sat, has_member, listed}
use Rattle.volume_model.specs.Plan as model
use Rattle.quorum_expr.specs.Common.{formula_of}
use Rattle.plan.specs.declared.configurations.Configuration.{Configuration}
use Rattle.plan.specs.declared.configurations.Plan.{Plan}
use Rattle.plan.specs.declared.fault.PlanFault.{PlanFault}
use Rattle.plan.specs.declared.fault.PlanFault.TheVariants.{Text}
use Rattle.volume_model.specs.declared.fault.Fault.TheVariants.{NoMemory}
use Rattle.plan.specs.PlanFaults.{plan_fault}
use Rattle.plan.specs.declared.checked.CheckedPlan.{CheckedPlan}
use Rattle.plan.specs.PlanData.{model_of, or_zero}
use Rattle.plan.specs.Plan.{plan_data}

abbrev pub checked_model : CheckedPlan → model.Plan
checked_model checked = model_of (plan_data checked.plan)

-- a program's configuration corresponds to this one of the model
pub record Shows (x : Configuration) (y : model.Configuration) : Type 0 where
  pub parent : or_zero x.parent ≡ y.parent
  pub members : listed x.members ≡ y.members
  pub full : listed x.full ≡ y.full
  pub read : formula_of x.read ≡ y.read
  pub write : formula_of x.write ≡ y.write

-- the configuration of a group, or None if there is no such group or configuration
abbrev pub ShowsConfiguration : Option (Bor Configuration) → model.Plan → ℕ → ℕ → Type 0
ShowsConfiguration None plan g c = (g < plan.groups) → (c < plan.configurations g) → ⊥
ShowsConfiguration (Some x) plan g c = (g < plan.groups) × (c < plan.configurations g) × Shows x.now
    (plan.configuration g c)

-- A check returns the checked plan exactly if there is no fault, and else the first fault with the plan, unless memory
-- runs out.
abbrev pub ChecksTo : Result CheckedPlan (PlanFault × Plan) → Plan → Type 0
ChecksTo (Ok checked) plan = (checked.plan ≡ plan) × (plan_fault (plan_data plan) ≡ None)
ChecksTo (Err (fault, back)) plan = (back ≡ plan) × (fault ≢ Text NoMemory → plan_fault (plan_data plan) ≡ Some fault)

-- the members of each configuration satisfy its write expression
abbrev pub HasWriteSets : model.Plan → Type 0
HasWriteSets plan = (group c : ℕ) → group < plan.groups → c < plan.configurations group
    → sat (plan.configuration group c).write (has_member (plan.configuration group c)) ≡ true
