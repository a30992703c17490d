-- What the program answers.
use Rattle.std.specs.Prelude.{◌≡◌, ◌⊎◌, ◌<◌, ℕ, List, [], ◌++◌, Bool, true, false, codes}
use Rattle.std.specs.Fmt.{decimal}
use Rattle.plan.specs.Common.{is_input, plan_fault_text}
use Rattle.plan.specs.declared.fault.PlanFault.{PlanFault}

-- an exit status, and what is written to standard output and to standard error
pub record Answer : Type 0 where
  pub status : ℕ
  pub out : List ℕ
  pub err : List ℕ

-- The answer of one line. If an input can't be used the status is 2, and the line goes to standard error; else it is 1,
-- and the line goes to standard output.
abbrev pub line_answer : Bool → List ℕ → Answer
line_answer true line = record { status = 2; out = []; err = line }
line_answer false line = record { status = 1; out = line; err = [] }

-- what is printed, and nothing to standard error
abbrev pub printed : ℕ → List ℕ → Answer
printed status text = record { status = status; out = text; err = [] }

-- the line of a plan's first fault; a text that isn't a plan's is an input that can't be used
abbrev pub fault_answer : PlanFault → Answer
fault_answer fault = line_answer (is_input fault) (plan_fault_text fault ++ codes "\n")

-- the file with this name can't be read
abbrev pub unreadable : List ℕ → Answer
unreadable name = line_answer true (codes "input: cannot read " ++ name ++ codes "\n")

-- the line with this number isn't in the grammar of scripts
abbrev pub bad_line : ℕ → Answer
bad_line number = line_answer true (codes "input: line " ++ decimal number ++ codes "\n")

-- memory ran out
abbrev pub no_memory : Answer
no_memory = line_answer true (codes "input: 9 NoMemory\n")

-- The answer is one for which Due holds, or memory ran out.
abbrev pub Says : (Answer → Type 0) → Answer → Type 0
Says Due answer = Due answer ⊎ (answer ≡ no_memory)

-- this is the answer, or memory ran out
abbrev pub IsSaid : Answer → Answer → Type 0
IsSaid answer = Says (λ said. said ≡ answer)

-- an answer with a status below 2 says nothing to standard error
abbrev pub IsQuiet : Answer → Type 0
IsQuiet answer = answer.status < 2 → answer.err ≡ []
