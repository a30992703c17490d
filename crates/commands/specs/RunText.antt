-- The printed text of a run.
use Rattle.std.specs.Prelude.{◌≡◌, ℕ, ◌+◌, ◌-◌, ◌*◌, Bool, true, false, if◌then◌else◌, List, [], ◌∷◌, ◌++◌, Option, Some, None, Result, Ok, Err, codes, is_err, max, min}
use Rattle.std.specs.Fmt.{decimal}
use Rattle.std.specs.List.{list_any}
use Rattle.volume_model.specs.declared.fault.Fault.{Fault}
use Rattle.volume_model.specs.Common.{fault_text, last_start, Opened, Find, Plan, last_lsn}
use Rattle.drivers.specs.declared.reading.Step.{Step}
use Rattle.plan.specs.Common.{sum_below}

-- the result of an event: the number of messages that it made, or its refusal
abbrev pub EventResult : Type 0
EventResult = Result ℕ Fault

-- a line's number, and the result of its event, if it has one
pub record LineResult : Type 0 where
  pub line : ℕ
  pub reported : Option EventResult

-- the line of a refusal
abbrev pub refused_line : ℕ → Fault → List ℕ
refused_line line fault = decimal line ++ codes " refused " ++ fault_text fault ++ codes "\n"

-- A printed line: the line's number and the number of messages made, or the line's number and the refusal's number and
-- name.
abbrev pub IsLineOf : ℕ → Option EventResult → List ℕ → Type 0
IsLineOf line None text = text ≡ decimal line ++ codes " ok 0\n"
IsLineOf line (Some (Ok made)) text = text ≡ decimal line ++ codes " ok " ++ decimal made ++ codes "\n"
IsLineOf line (Some (Err fault)) text = text ≡ refused_line line fault

-- the text has a line for each result, in order
pub data AreLinesOf : List LineResult → List ℕ → Type 0 where
  none : AreLinesOf [] []
  more : (line_results : List LineResult) (line_result : LineResult) (text line : List ℕ) → AreLinesOf line_results text
      → IsLineOf line_result.line line_result.reported line → AreLinesOf (line_results ++ line_result ∷ [])
      (text ++ line)

-- the first of the results if a step has an event; the next definition gives the others
abbrev pub first_if : Bool → List EventResult → Option EventResult
first_if true (reported ∷ later) = Some reported
first_if true [] = None
first_if false all = None

abbrev pub rest_if : Bool → List EventResult → List EventResult
rest_if true (reported ∷ later) = later
rest_if true [] = []
rest_if false all = all

-- The result of each step: the results are those of the steps that have an event, in order.
abbrev pub line_results : List Step → List EventResult → List LineResult
line_results [] results = []
line_results (step ∷ steps) results = (record { line = step.line; reported = first_if step.has_event results }) ∷
    line_results steps (rest_if step.has_event results)

-- the LSN after the greater of the log's last and the writer's start, at most the greatest number
abbrev pub next_lsn : Opened → ℕ
next_lsn opened = min (max (last_lsn opened.log) opened.start + 1) 18446744073709551615

-- the line of an opened writer
abbrev pub writer_line : Opened → List ℕ
writer_line opened =
    codes "writer " ++ decimal opened.volume ++ codes " durable " ++ decimal opened.durable ++ codes " next "
    ++ decimal (next_lsn opened) ++ codes "\n"

-- the line of a recovery that has cut
abbrev pub find_line : Find → List ℕ
find_line find =
    codes "recovery " ++ decimal find.volume ++ codes " cut " ++ decimal find.cut ++ codes " start "
    ++ decimal (last_start find.lineage) ++ codes "\n"

-- a line for each, in order
abbrev pub each_line : {A : Type 0} → (A → List ℕ) → List A → List ℕ
each_line line [] = []
each_line line (x ∷ later) = line x ++ each_line line later

-- 1 if an event was refused, else 0
abbrev pub status_of : List EventResult → ℕ
status_of results = if list_any (λ reported. is_err reported) results then 1 else 0

-- The status and the text are those of these steps, results, opened writers and recoveries that have cut: a line for
-- each, and 1 if an event was refused.
pub record PrintsRun (steps : List Step) (results : List EventResult) (writers : List Opened) (finds : List Find)
    (status : ℕ) (text : List ℕ) : Type 0 where
  pub lines : List ℕ
  pub lines_are : AreLinesOf (line_results steps results) lines
  pub text_is : text ≡ (lines ++ each_line writer_line writers) ++ each_line find_line finds
  pub status_is : status ≡ status_of results

-- the line of a plan without a fault that has these numbers of groups, configurations and certificates
abbrev pub counts_line : ℕ → ℕ → ℕ → List ℕ
counts_line groups configurations certificates =
    codes "yes: " ++ decimal groups ++ codes " groups, " ++ decimal configurations ++ codes " configurations, "
    ++ decimal certificates ++ codes " certificates\n"

-- The line of a plan without a fault. It has a certificate for each configuration, and one more for each that isn't a
-- root.
abbrev pub plan_line : Plan → List ℕ
plan_line plan = let configurations = sum_below plan.configurations plan.groups in counts_line plan.groups configurations (2 * configurations - plan.groups)
