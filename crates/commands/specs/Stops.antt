-- The answer of a job that stops before its own answer.
use Rattle.std.specs.Prelude.{ℕ, List, ◌++◌, Bool, true, Result, Ok, Err, codes, string_bytes}
use Rattle.std.specs.Fmt.{decimal}
use Rattle.plan.specs.Common.{is_input, plan_fault_text}
use Rattle.volume_model.specs.declared.fault.Fault.TheVariants as faults
use Rattle.plan.specs.declared.fault.PlanFault.{PlanFault}
use Rattle.plan.specs.declared.fault.PlanFault.TheVariants.{Text}
use Rattle.drivers.specs.Script.{IsFirstBad}
use Rattle.drivers.specs.declared.reading.ScriptFault.{ScriptFault}
use Rattle.drivers.specs.declared.reading.ScriptFault.TheVariants as scripts
use Rattle.commands.specs.Answer.{Answer, line_answer}
use Rattle.commands.specs.declared.reply.Reply.{Reply}
use Rattle.commands.specs.declared.reply.Stop.{Stop}
use Rattle.commands.specs.declared.reply.Stop.TheVariants.{Unreadable, Plan, Placed, Line, Number, NoMemory}

-- an input can't be used
abbrev pub is_input_stop : Stop → Bool
is_input_stop (Unreadable name) = true
is_input_stop (Plan fault) = is_input fault
is_input_stop (Placed lines fault) = is_input fault
is_input_stop (Line number) = true
is_input_stop (Number number) = true
is_input_stop NoMemory = true

-- the line that says why a job stops; the lines of the place are above it
abbrev pub stop_line : Stop → List ℕ
stop_line (Unreadable name) = codes "input: cannot read " ++ string_bytes name ++ codes "\n"
stop_line (Plan fault) = plan_fault_text fault ++ codes "\n"
stop_line (Placed lines fault) = string_bytes lines ++ plan_fault_text fault ++ codes "\n"
stop_line (Line number) = codes "input: line " ++ decimal number ++ codes "\n"
stop_line (Number number) = codes "input: no refusal has the number " ++ decimal number ++ codes "\n"
stop_line NoMemory = codes "input: 9 NoMemory\n"

abbrev pub stop_answer : Stop → Answer
stop_answer stop = line_answer (is_input_stop stop) (stop_line stop)

-- a reply, as an answer
abbrev pub said : Reply → Answer
said reply = record { status = reply.status; out = reply.out.items; err = reply.err.items }

-- the answer with a reply, or that of a job that stopped before it
abbrev pub answer_of : Result Reply Stop → Answer
answer_of (Ok reply) = said reply
answer_of (Err stop) = stop_answer stop

-- why a job stops whose plan has this fault
abbrev pub plan_stop : PlanFault → Stop
plan_stop (Text faults.NoMemory) = NoMemory
plan_stop fault = Plan fault

-- why a job stops whose script can't be run
abbrev pub script_stop : ScriptFault → Stop
script_stop (scripts.Line number) = Line number
script_stop scripts.NoMemory = NoMemory

-- The job stops at the first bad line of its script's text, or memory ran out.
abbrev pub StopsAtLine : List ℕ → Stop → Type 0
StopsAtLine text (Line number) = IsFirstBad text number
StopsAtLine text NoMemory = Unit {0}
StopsAtLine text stop = ⊥

-- The job stops for a fault of its plan with this property, or memory ran out.
abbrev pub StopsBy : (PlanFault → Type 0) → Stop → Type 0
StopsBy IsSo (Plan fault) = IsSo fault
StopsBy IsSo NoMemory = Unit {0}
StopsBy IsSo stop = ⊥
