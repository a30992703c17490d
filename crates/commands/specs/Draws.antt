-- The answers of `draw`.
use Rattle.std.specs.Prelude.{◌≡◌, ◌≤◌, ℕ, List, Ok, Err}
use Rattle.plan.specs.Common.{PlanData, plan_of}
use Rattle.plan.specs.declared.fault.PlanFault.{PlanFault}
use Rattle.commands.specs.Answer.{Answer, fault_answer, printed}
use Rattle.volume_model.specs.Plan as model
use Rattle.commands.specs.Answers.{BothAnswer, File, PrintsFleetOf, PrintsScript}
use Rattle.commands.specs.declared.running.ScriptUse.{ScriptUse}
use Rattle.commands.specs.declared.running.ScriptUse.TheVariants.{Run, Fleet, Draw}

-- The answer to a plan's text: the text's fault; or, to the text of a plan, a picture or a fault of the plan. The plan
-- needs no certificates.
pub data DrawsTo (text : List ℕ) (answer : Answer) : Type 0 where
  faulty : (fault : PlanFault) → plan_of text ≡ Err fault → answer ≡ fault_answer fault → DrawsTo text answer
  undrawn : (plan : PlanData) → plan_of text ≡ Ok plan → (fault : PlanFault) → answer ≡ fault_answer fault
      → DrawsTo text answer
  drawn : (plan : PlanData) → plan_of text ≡ Ok plan → (picture : List ℕ) → answer ≡ printed 0 picture
      → DrawsTo text answer

-- The answer to a plan's text and a script's file: the plan's first fault; or the script's first bad line; or a
-- picture, or a line that says why there is none.
abbrev pub DrawsRunTo : File → List ℕ → Answer → Type 0
DrawsRunTo = BothAnswer (λ plan script status text. status ≤ 1)

-- what is printed of a script over a plan
abbrev pub printing : ScriptUse → model.Plan → List ℕ → ℕ → List ℕ → Type 0
printing Run = PrintsScript
printing Fleet = PrintsFleetOf
printing Draw = λ plan script status text. status ≤ 1

-- the answer to a plan's text and the file of a script that is used in this way
abbrev pub UsesTo : ScriptUse → File → List ℕ → Answer → Type 0
UsesTo script_use = BothAnswer (printing script_use)
