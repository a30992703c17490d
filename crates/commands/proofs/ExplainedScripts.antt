-- What an explanation of a script over a plan says of the plan.
use Rattle.std.proofs.Common.{◌≡◌, ◌∙◌, inl, inr, refl, subst, sym, Bool, true, false, IfOk, IfSome, Result, Ok, Err, take}
use Rattle.plan.specs.declared.checked.CheckedPlan.{CheckedPlan}
use Rattle.commands.specs.Answer.{Answer, IsQuiet, Says}
use Rattle.commands.specs.Answers.{AnswersOf, File, PlanAnswers}
use Rattle.commands.specs.Answers.AnswersOf.{unmade}
use Rattle.commands.specs.Read.{IsPlanOf, IsRead}
use Rattle.commands.specs.Reports.{ChecksFault, ExplainsFault, IsReportOf, Reports}
use Rattle.commands.specs.Stops.{answer_of, is_input_stop, said, stop_answer, stop_line}
use Rattle.commands.specs.Verdict.{IsCertifiedText}
use Rattle.commands.specs.declared.reply.Reply.{Reply}
use Rattle.commands.specs.declared.reply.Stop.{Stop}
use Rattle.commands.proofs.Due.{never_certified, plan_due}
use Rattle.commands.proofs.Reported.{reports_itself}
use Rattle.commands.proofs.Says.{certified_by, line_quiet, yes_of}

-- an answer in words serves as a report too
pub as_report : (json : Bool) (file : File) (a : Answer) → ChecksFault file a → ExplainsFault json file a
as_report true file a due = reports_itself (ChecksFault file) a due
as_report false file a due = due

-- whatever is answered about a plan without a fault
pub over_plan : (json : Bool) (file : File) (plan : CheckedPlan) (a : Answer) → IsRead file (λ text. IsPlanOf text plan) → ExplainsFault json file a
over_plan json file plan a h = as_report json file a (plan_due (λ plan said. Unit {0}) file plan a h (inl tt))

-- a plan that can't be used
pub plan_stops : (json : Bool) (file : File) (a : Answer) → AnswersOf file (λ text. PlanAnswers text (λ _ _. ⊥)) a → ExplainsFault json file a
plan_stops json file a h = as_report json file a (never_certified (λ plan said. Unit {0}) file a h)

-- the same as JSON
plan_reports : (file : File) (checked a : Answer) → AnswersOf file (λ text. PlanAnswers text (λ _ _. ⊥)) checked → Says (IsReportOf checked) a → Reports (ChecksFault file) a
plan_reports file checked a h (inl is) = record { checked = checked; due = never_certified (λ plan said. Unit {0}) file checked h; is = is }
plan_reports file checked a h (inr out) = reports_itself (ChecksFault file) a (unmade out)

pub json_stops : (json : Bool) (file : File) (checked a : Answer) → json ≡ true → AnswersOf file (λ text. PlanAnswers text (λ _ _. ⊥)) checked → Says (IsReportOf checked) a → ExplainsFault json file a
json_stops json file checked a is h says = subst (λ (b : Bool). ExplainsFault b file a) (sym is) (plan_reports file checked a h says)

-- the status 0
yes_fault : (file : File) (a : Answer) → ChecksFault file a → a.status ≡ 0 → IfSome file.known (λ bytes. IsCertifiedText (take 16777217 bytes))
yes_fault file a due zero = yes_of (λ text. PlanAnswers text (λ plan said. Unit {0})) file a (λ text. certified_by text a) due zero

pub yes_explained : (json : Bool) (file : File) (a : Answer) → ExplainsFault json file a → a.status ≡ 0 → IfSome file.known (λ bytes. IsCertifiedText (take 16777217 bytes))
yes_explained true file a h zero = yes_fault file h.checked h.due (sym h.is.status_is ∙ zero)
yes_explained false file a h zero = yes_fault file a h zero

-- a quiet reply, or a stop
pub quiet_result : (r : Result Reply Stop) → IfOk r (λ reply. IsQuiet (said reply)) → IsQuiet (answer_of r)
quiet_result (Ok reply) quiet = quiet
quiet_result (Err stop) quiet = line_quiet (stop_answer stop) (is_input_stop stop) (stop_line stop) refl
