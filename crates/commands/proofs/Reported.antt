-- What a report as JSON says.
use Rattle.std.proofs.Common.{◌≡◌, ◌∙◌, ap, sym, subst, refl, ℕ, ◌<◌, nat_lt, if◌then◌else◌, List, [], ◌++◌, Bool, true, false, codes, Some, Result, Ok, Err, IfOk, IfErr, None, lt-ltb}
use Rattle.std.proofs.lemmas.Result.{IfOk-weaker}
use Rattle.plan.specs.Common.{checked_model, is_input, plan_data, PlanData, plan_fault_text, plan_fault, plan_of}
use Rattle.plan.specs.declared.checked.CheckedPlan.{CheckedPlan}
use Rattle.plan.specs.declared.configurations.Plan.{Plan}
use Rattle.plan.specs.declared.fault.PlanFault.{PlanFault}
use Rattle.volume_model.specs.Common.{IsCertified}
use Rattle.commands.specs.Answer.{Answer, IsQuiet, fault_answer, line_answer, printed}
use Rattle.commands.specs.Answers.PlanAnswers.{faulty, certified}
use Rattle.commands.specs.Reports.{IsReport, IsReportOf, Reports, ReportsTo, status_of}
use Rattle.commands.specs.RunText.{plan_line}
use Rattle.commands.specs.Stops.{StopsBy, is_input_stop, said, stop_line}
use Rattle.commands.specs.Verdict.{first_fault, text_fault}
use Rattle.commands.specs.declared.reply.Reply.{Reply}
use Rattle.commands.specs.declared.reply.Stop.{Stop}
use Rattle.commands.specs.declared.reply.Stop.TheVariants as stops
use Rattle.commands.proofs.Due.{whole_text}

-- an answer reports itself
pub reports_itself : (Due : Answer → Type 0) (a : Answer) → Due a → Reports Due a
reports_itself Due a due = record { checked = a; due = due; is = record { status_is = refl; err_is = refl } }

-- the first fault of a text, as a check prints it
pub fault_due : (text : List ℕ) (fault : PlanFault) → text_fault text ≡ Some fault → ReportsTo text (fault_answer fault)
fault_due text fault is = reports_itself _ (fault_answer fault) (faulty fault is refl)

-- a plan without a fault
pub reports_yes : (text line : List ℕ) (plan : Plan) (checked : CheckedPlan) (r : Result Reply Stop) → plan_of text ≡ Ok (plan_data plan) → checked.plan ≡ plan → plan_fault (plan_data plan) ≡ None → IsCertified (checked_model checked)
    → IfOk r (λ reply. IsReport 0 line (said reply)) → IfOk r (λ reply. ReportsTo text (said reply))
reports_yes text line plan checked r spelled same faultless holds made = IfOk-weaker r _ _ (λ reply h. record {
  checked = printed 0 (plan_line (checked_model checked));
  due = certified (whole_text text checked (record { spelled = spelled ∙ ap (λ p. Ok (plan_data p)) (sym same); faultless = ap (λ p. plan_fault (plan_data p)) same ∙ faultless; certified = holds })) refl;
  is = record { status_is = h.0; err_is = h.1 };
}) made

-- the line of a fault, which is an input's or isn't
line_reports : (input : Bool) (line text : List ℕ) (a : Answer) → line ≡ text → IsReport (status_of input) line a → IsReportOf (line_answer input text) a
line_reports true line text a e h = record { status_is = h.0; err_is = h.1 ∙ e }
line_reports false line text a e h = record { status_is = h.0; err_is = h.1 }

-- the report of a plan's fault is that of a check
pub fault_reports : (fault : PlanFault) (status : ℕ) (line : List ℕ) (r : Result Reply Stop) → status ≡ status_of (is_input fault) → line ≡ plan_fault_text fault ++ codes "\n" → IfOk r (λ reply. IsReport status line (said reply))
    → IfOk r (λ reply. IsReportOf (fault_answer fault) (said reply))
fault_reports fault status line r same e made =
    IfOk-weaker r _ _ (λ reply h. line_reports (is_input fault) line (plan_fault_text fault ++ codes "\n") (said reply) e (subst (λ n. IsReport n line (said reply)) same h)) made

pub reports_fault : (text : List ℕ) (fault : PlanFault) (r : Result Reply Stop) → text_fault text ≡ Some fault → IfOk r (λ reply. IsReportOf (fault_answer fault) (said reply)) → IfOk r (λ reply. ReportsTo text (said reply))
reports_fault text fault r is made = IfOk-weaker r _ _ (λ reply h. record { checked = fault_answer fault; due = faulty fault is refl; is = h }) made

-- the fault at which a check of the plan stops
stop_made : (text line : List ℕ) (plan : PlanData) (stop : Stop) (a : Answer) → plan_of text ≡ Ok plan → StopsBy (λ fault. plan_fault plan ≡ Some fault) stop → is_input_stop stop ≡ false → line ≡ stop_line stop → IsReport 1 line a → ReportsTo text a
stop_made text line plan (stops.Plan fault) a spelled is refused e h = record {
  checked = fault_answer fault;
  due = faulty fault (ap first_fault spelled ∙ is) refl;
  is = subst (λ input. IsReportOf (line_answer input (plan_fault_text fault ++ codes "\n")) a) (sym refused) (line_reports false line (plan_fault_text fault ++ codes "\n") a e h);
}
stop_made text line plan stops.NoMemory a spelled is refused e h = absurd cc
stop_made text line plan stop a spelled bad refused e h = absurd bad

pub reports_no : (text line : List ℕ) (plan : PlanData) (stop : Stop) (r : Result Reply Stop) → plan_of text ≡ Ok plan → StopsBy (λ fault. plan_fault plan ≡ Some fault) stop → is_input_stop stop ≡ false → line ≡ stop_line stop
    → IfOk r (λ reply. IsReport 1 line (said reply)) → IfOk r (λ reply. ReportsTo text (said reply))
reports_no text line plan stop r spelled is refused e made = IfOk-weaker r _ _ (λ reply h. stop_made text line plan stop (said reply) spelled is refused e h) made

-- memory ran out
pub only_memory : (P : PlanFault → Type 0) (r : Result Reply Stop) → IfErr r (λ stop. stop ≡ stops.NoMemory) → IfErr r (StopsBy P)
only_memory P (Ok reply) out = tt
only_memory P (Err stop) out = subst (λ (s : Stop). StopsBy P s) (sym out) tt

-- a report with a status below 2 says nothing to standard error
quiet_if : (quiet : Bool) (line : List ℕ) → quiet ≡ true → (if quiet then [] else line) ≡ []
quiet_if true line e = refl
quiet_if false line e = absurd cc

report_quiet : (status : ℕ) (line : List ℕ) (a : Answer) → IsReport status line a → IsQuiet a
report_quiet status line a h = λ small. h.1 ∙ quiet_if (nat_lt status 2) line (lt-ltb status 2 (subst (λ (n : ℕ). n < 2) h.0 small))

pub made_quiet : (status : ℕ) (line : List ℕ) (r : Result Reply Stop) → IfOk r (λ reply. IsReport status line (said reply)) → IfOk r (λ reply. IsQuiet (said reply))
made_quiet status line r made = IfOk-weaker r _ _ (λ reply h. report_quiet status line (said reply) h) made
