-- Answers with a status below 2, which say nothing to standard error.
use Rattle.std.proofs.Common.{◌≡◌, ◌∙◌, ap, inl, inr, subst, ℕ, ◌<◌, List, Bool, true, false, Option}
use Rattle.plan.specs.Common.{is_input, PlanData, model_of}
use Rattle.plan_edit.specs.declared.requests.PlanRequest.{PlanRequest}
use Rattle.commands.specs.Answer.{Answer, IsQuiet, printed}
use Rattle.commands.specs.Answers.{AnswersOf, BothAnswer, ChecksTo, File, PlanAnswers, ScriptAnswers}
use Rattle.commands.specs.Answers.AnswersOf.{read, unread, unmade}
use Rattle.commands.specs.Answers.PlanAnswers.{faulty, certified}
use Rattle.commands.specs.Begins.{BeginsTo}
use Rattle.commands.specs.Begins.BeginsTo.{begun, refused, unusable}
use Rattle.commands.specs.Draws.{DrawsTo}
use Rattle.commands.specs.Draws.DrawsTo.{drawn, faulty as undrawn_text, undrawn}
use Rattle.commands.specs.Explains.{above}
use Rattle.commands.specs.FaultQuery.{AnswersNumber, ExplainsJob}
use Rattle.commands.specs.FaultQuery.AnswersNumber.{known, unknown, unmade as unmade_number}
use Rattle.commands.specs.FaultQuery.ExplainsJob.{of_file, of_number}
use Rattle.commands.specs.JobAnswers.{shown_file}
use Rattle.commands.specs.Makes.{MakesTo}
use Rattle.commands.specs.Replaces.{ReplacesTo}
use Rattle.commands.specs.Replaces.ReplacesTo.{faulty as unedited_text, refused as unedited, replaced, uncertified}
use Rattle.commands.specs.Reports.{ExplainsAs}
use Rattle.commands.specs.declared.action.Job.{Job}
use Rattle.commands.specs.declared.action.ReplaceOptions.{ReplaceOptions}
use Rattle.commands.specs.declared.files.Source.{Source}
use Rattle.commands.proofs.Due.{LineResult, PlanPrinting}
use Rattle.commands.proofs.Says.{line_quiet}

quiet_print : (a : Answer) (status : ℕ) (text : List ℕ) → a ≡ printed status text → IsQuiet a
quiet_print a status text is = λ small. ap (λ (b : Answer). b.err) is

pub quiet_of : (D : List ℕ → Answer → Type 0) (file : File) (a : Answer) → ((text : List ℕ) → D text a → IsQuiet a) → AnswersOf file D a → IsQuiet a
quiet_of D file a f (read text whole is due) = f text due
quiet_of D file a f (unread failed said) = line_quiet a true _ said
quiet_of D file a f (unmade said) = line_quiet a true _ said

quiet_plan : {D : PlanData → Answer → Type 0} (text : List ℕ) (a : Answer) → ((plan : PlanData) → D plan a → IsQuiet a) → PlanAnswers text D a → IsQuiet a
quiet_plan text a f (faulty fault is said) = line_quiet a (is_input fault) _ said
quiet_plan text a f (certified whole due) = f whole.plan due

pub quiet_checked : (text : List ℕ) (a : Answer) → ChecksTo text a → IsQuiet a
quiet_checked text a due = quiet_plan text a (λ plan is. quiet_print a 0 _ is) due

pub quiet_made : (text : List ℕ) (a : Answer) → MakesTo text a → IsQuiet a
quiet_made text a due = quiet_plan text a (λ plan made small. made.1) due

quiet_script : (T : LineResult) (script : List ℕ) (a : Answer) → ScriptAnswers T script a → IsQuiet a
quiet_script T script a (inl bad) = line_quiet a true _ bad.answered
quiet_script T script a (inr done) = λ small. done.1

pub quiet_both : (T : PlanPrinting) (script : File) (text : List ℕ) (a : Answer) → BothAnswer T script text a → IsQuiet a
quiet_both T script text a due =
    quiet_plan text a (λ plan. quiet_of (ScriptAnswers (T (model_of plan))) script a (λ t. quiet_script (T (model_of plan)) t a)) due

quiet_explained : (json : Bool) (text : List ℕ) (a : Answer) → ExplainsAs json text a → IsQuiet a
quiet_explained true text a due = λ small. due.is.err_is ∙ quiet_checked text due.checked due.due (subst (λ (n : ℕ). n < 2) due.is.status_is small)
quiet_explained false text a due = λ small.
    ap (λ (b : Answer). b.err) due.is ∙ ap (above due.lines) (quiet_checked text due.checked due.due (subst (λ (n : ℕ). n < 2) (ap (λ (b : Answer). b.status) due.is) small))

quiet_number : (number : ℕ) (a : Answer) → AnswersNumber number a → IsQuiet a
quiet_number number a (known fault is words said) = quiet_print a 0 _ said
quiet_number number a (unknown said) = line_quiet a true _ said
quiet_number number a (unmade_number said) = line_quiet a true _ said

pub quiet_job : {R : Type 0} (remaining : R → Option (List ℕ)) (job : Job) (old new : Source R) (a : Answer) → ExplainsJob remaining job old new a → IsQuiet a
quiet_job remaining job old new a (of_number number is due) = quiet_number number a due
quiet_job remaining job old new a (of_file is due) = quiet_of (ExplainsAs job.json) (shown_file remaining job old new) a (λ text. quiet_explained job.json text a) due

pub quiet_replaced : (options : ReplaceOptions) (text : List ℕ) (a : Answer) → ReplacesTo options text a → IsQuiet a
quiet_replaced options text a (unedited_text fault is said) = line_quiet a (is_input fault) _ said
quiet_replaced options text a (replaced line is said) = quiet_print a 0 line said
quiet_replaced options text a (uncertified plan spelled fault said) = line_quiet a (is_input fault) _ said
quiet_replaced options text a (unedited plan spelled line said) = quiet_print a 1 line said

pub quiet_drawn : (text : List ℕ) (a : Answer) → DrawsTo text a → IsQuiet a
quiet_drawn text a (undrawn_text fault is said) = line_quiet a (is_input fault) _ said
quiet_drawn text a (undrawn plan spelled fault said) = line_quiet a (is_input fault) _ said
quiet_drawn text a (drawn plan spelled picture said) = quiet_print a 0 picture said

pub quiet_begun : (request : PlanRequest) (a : Answer) → BeginsTo request a → IsQuiet a
quiet_begun request a (begun line is said) = quiet_print a 0 line said
quiet_begun request a (refused line said) = quiet_print a 1 line said
quiet_begun request a (unusable line said) = line_quiet a true line said
