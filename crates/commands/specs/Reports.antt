-- What `explain --json` answers.
use Rattle.std.specs.Prelude.{◌≡◌, ℕ, nat_lt, if◌then◌else◌, List, [], Bool, true, false}
use Rattle.commands.specs.Answer.{Answer}
use Rattle.commands.specs.Answers.{AnswersOf, ChecksTo, File, PlanAnswers}
use Rattle.commands.specs.Explains.{ExplainsTo}

-- A report with this status. If the status is 2, it writes the line of a check to standard error.
abbrev pub IsReport : ℕ → List ℕ → Answer → Type 0
IsReport status line answer = (answer.status ≡ status) × (answer.err ≡ (if nat_lt status 2 then [] else line))

-- an answer has the status of another one, and writes the same to standard error
pub record IsReportOf (checked answer : Answer) : Type 0 where
  pub status_is : answer.status ≡ checked.status
  pub err_is : answer.err ≡ checked.err

-- an answer has the status of one for which Due holds, and writes the same to standard error
pub record Reports (Due : Answer → Type 0) (answer : Answer) : Type 0 where
  pub checked : Answer
  pub due : Due checked
  pub is : IsReportOf checked answer

-- The answer to a plan's text: the status of a check, and what a check writes to standard error.
abbrev pub ReportsTo : List ℕ → Answer → Type 0
ReportsTo text = Reports (ChecksTo text)

-- the status of a check that finds a fault
abbrev pub status_of : Bool → ℕ
status_of true = 2
status_of false = 1

-- the answer to a plan's text, as JSON or in words
abbrev pub ExplainsAs : Bool → List ℕ → Answer → Type 0
ExplainsAs true = ReportsTo
ExplainsAs false = ExplainsTo

-- ---- a script over a plan

-- The answer about a plan's file: if its text has a fault, that of a check. Nothing is said of the answer about a plan
-- without a fault.
abbrev pub ChecksFault : File → Answer → Type 0
ChecksFault file answer = AnswersOf file (λ text. PlanAnswers text (λ plan said. Unit {0})) answer

-- the same of a report: it has the status of such an answer, and writes the same to standard error
abbrev pub ReportsFault : File → Answer → Type 0
ReportsFault file = Reports (ChecksFault file)

-- the answer about the file of a plan that a script is to run over, as JSON or in words
abbrev pub ExplainsFault : Bool → File → Answer → Type 0
ExplainsFault true = ReportsFault
ExplainsFault false = ChecksFault
