-- The fault of a plan's text.
use Rattle.std.specs.Prelude.{◌≡◌, List, ℕ, Option, Some, None, Result, Ok, Err}
use Rattle.volume_model.specs.Common.{IsCertified}
use Rattle.plan.specs.declared.fault.PlanFault.{PlanFault}
use Rattle.plan.specs.Common.{PlanData, model_of, plan_of, plan_fault}

-- the first fault of what was read as a plan
abbrev pub first_fault : Result PlanData PlanFault → Option PlanFault
first_fault (Ok plan) = plan_fault plan
first_fault (Err fault) = Some fault

-- the first fault of a text as a plan's
abbrev pub text_fault : List ℕ → Option PlanFault
text_fault text = first_fault (plan_of text)

-- The text is that of a plan without a fault: in each configuration each read set shares a member with each write set,
-- and each step is safe.
pub record IsCertifiedText (text : List ℕ) : Type 0 where
  pub plan : PlanData
  pub spelled : plan_of text ≡ Ok plan
  pub faultless : plan_fault plan ≡ None
  pub certified : IsCertified (model_of plan)

-- the text has a fault as a plan's
abbrev pub IsFaultyText : List ℕ → Type 0
IsFaultyText text = (fault : PlanFault) × (text_fault text ≡ Some fault)
