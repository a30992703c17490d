-- The answer that belongs to the bytes of a job's files.
use Rattle.std.specs.Prelude.{◌≡◌, ◌⊎◌, ℕ, List, [], Bool, true, false, Option, Some, map, length, option_map, unwrap_or}
use Rattle.volume_model.specs.Plan as model
use Rattle.volume_model.specs.Common.{writers_in, finds_in, opening, results, run}
use Rattle.plan.specs.Common.{PlanData, model_of}
use Rattle.plan.specs.declared.fault.PlanFault.{PlanFault}
use Rattle.world.specs.Events.{events_from}
use Rattle.world.specs.declared.event.Order.{Order}
use Rattle.commands.specs.declared.action.Job.{Job}
use Rattle.drivers.specs.Grammar.{LineAction}
use Rattle.drivers.specs.Script.{IsFirstBad, IsScript, kept_of}
use Rattle.drivers.specs.Seen.{asked_by}
use Rattle.drivers.specs.declared.reading.Step.{Step}
use Rattle.commands.specs.Answer.{Answer, bad_line, fault_answer, no_memory, printed, unreadable}
use Rattle.commands.specs.Streams.{IsTextOf, is_unread, left_of}
use Rattle.commands.specs.RunText.{PrintsRun, plan_line}
use Rattle.commands.specs.FleetText.{PrintsFleet}
use Rattle.commands.specs.Verdict.{IsCertifiedText, text_fault}
use Rattle.commands.specs.declared.files.Source.{Source}

-- ---- files

-- A file of a job: its name, its bytes if they are known, and whether a read of it failed.
pub record File : Type 0 where
  pub name : List ℕ
  pub known : Option (List ℕ)
  pub failed : Bool

abbrev pub file_of : {R : Type 0} → (R → Option (List ℕ)) → List ℕ → Source R → Source R → File
file_of remaining name old new = record { name = name; known = left_of remaining old; failed = is_unread new }

-- The answer about a file: Due holds for its text; or a read of it failed, and the answer says so; or memory ran out.
pub data AnswersOf (file : File) (Due : List ℕ → Answer → Type 0) (answer : Answer) : Type 0 where
  read : (text : List ℕ) → file.failed ≡ false → IsTextOf file.known text → Due text answer → AnswersOf file Due answer
  unread : file.failed ≡ true → answer ≡ unreadable file.name → AnswersOf file Due answer
  unmade : answer ≡ no_memory → AnswersOf file Due answer

-- The answer about a plan's text: its first fault; or it has none, and Due holds for its plan.
pub data PlanAnswers (text : List ℕ) (Due : PlanData → Answer → Type 0) (answer : Answer) : Type 0 where
  faulty : (fault : PlanFault) → text_fault text ≡ Some fault → answer ≡ fault_answer fault → PlanAnswers text Due
      answer
  certified : (whole : IsCertifiedText text) → Due whole.plan answer → PlanAnswers text Due answer

-- ---- a check

-- the answer of a check to a plan's text: its first fault, or the line of its plan
abbrev pub ChecksTo : List ℕ → Answer → Type 0
ChecksTo text answer = PlanAnswers text (λ plan said. said ≡ printed 0 (plan_line (model_of plan))) answer

-- ---- a script over a plan

-- the text isn't a script, and the answer is the number of its first bad line
pub record IsBadScript (script : List ℕ) (answer : Answer) : Type 0 where
  pub number : ℕ
  pub first : IsFirstBad script number
  pub answered : answer ≡ bad_line number

-- such a status and text, and nothing to standard error
abbrev pub IsText : (ℕ → List ℕ → Type 0) → Answer → Type 0
IsText Prints answer = Prints answer.status answer.out × (answer.err ≡ [])

-- the answer about a script's text: its first bad line, or what is printed
abbrev pub ScriptAnswers : (List ℕ → ℕ → List ℕ → Type 0) → List ℕ → Answer → Type 0
ScriptAnswers Prints script answer = IsBadScript script answer ⊎ IsText (Prints script) answer

-- The answer about a plan's text and a script's file: the plan's first fault; or the script's first bad line; or what
-- is printed for the script over the plan.
abbrev pub BothAnswer : (model.Plan → List ℕ → ℕ → List ℕ → Type 0) → File → List ℕ → Answer → Type 0
BothAnswer Prints script text answer = PlanAnswers text
    (λ plan. AnswersOf script (ScriptAnswers (Prints (model_of plan)))) answer

-- ---- a run

-- The status and the text are those of the model's run of these orders over a plan: the results of the steps' events,
-- the opened writers, and the recoveries that have cut.
abbrev pub PrintsOrders : model.Plan → List Step → List Order → ℕ → List ℕ → Type 0
PrintsOrders plan steps orders status text =
    let events = events_from plan (opening plan) [] orders in
    PrintsRun steps (results plan (opening plan) events) (writers_in (run plan (opening plan) events))
    (finds_in (run plan (opening plan) events)) status text

-- The same for a script's text: its lines have these actions, and the orders are those of the actions.
pub record PrintsScript (plan : model.Plan) (script : List ℕ) (status : ℕ) (text : List ℕ) : Type 0 where
  pub actions : List LineAction
  pub spelled : IsScript script actions
  pub orders : List Order
  pub asked : map asked_by orders ≡ (kept_of actions).asked
  pub reported : PrintsOrders plan (kept_of actions).steps orders status text

-- the answer of a run to a plan's text and a script's file
abbrev pub RunsTo : File → List ℕ → Answer → Type 0
RunsTo = BothAnswer PrintsScript

-- ---- a run on threads

-- The text is a script whose lines have these actions, and the printed text is that of a fleet's run of as many orders.
pub record PrintsFleetOf (plan : model.Plan) (script : List ℕ) (status : ℕ) (text : List ℕ) : Type 0 where
  pub actions : List LineAction
  pub spelled : IsScript script actions
  pub reported : PrintsFleet plan (length (kept_of actions).asked) status text

-- the answer of a fleet to a plan's text and a script's file
abbrev pub FleetsTo : File → List ℕ → Answer → Type 0
FleetsTo = BothAnswer PrintsFleetOf

-- the name of a job's script, empty if there is none
abbrev pub script_name : Job → List ℕ
script_name job = unwrap_or (option_map (λ name. name.now) job.script) []
