-- A program's plan and script, and the texts of their files.
use Rattle.std.specs.Prelude.{◌≡◌, ℕ, List, false, None, Ok}
use Rattle.volume_model.specs.Common.{IsCertified}
use Rattle.plan.specs.Common.{checked_model, plan_data, plan_of, plan_fault}
use Rattle.plan.specs.declared.checked.CheckedPlan.{CheckedPlan}
use Rattle.drivers.specs.Grammar.{LineAction}
use Rattle.drivers.specs.Script.{IsScript, Keeps}
use Rattle.drivers.specs.declared.reading.Script.{Script}
use Rattle.commands.specs.Answers.{File}
use Rattle.commands.specs.Streams.{IsTextOf}

-- the text is that of this plan, which has no fault
pub record IsPlanOf (text : List ℕ) (checked : CheckedPlan) : Type 0 where
  pub spelled : plan_of text ≡ Ok (plan_data checked.plan)
  pub faultless : plan_fault (plan_data checked.plan) ≡ None
  pub certified : IsCertified (checked_model checked)

-- the text is a script, and this is the program's
pub record IsScriptOf (text : List ℕ) (script : Script) : Type 0 where
  pub actions : List LineAction
  pub spelled : IsScript text actions
  pub keeps : Keeps script actions

-- the file was read, and its text has this property
pub record IsRead (file : File) (IsSo : List ℕ → Type 0) : Type 0 where
  pub text : List ℕ
  pub whole : file.failed ≡ false
  pub is_text : IsTextOf file.known text
  pub is_so : IsSo text
