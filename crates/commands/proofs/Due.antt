-- Which answer is due, from one part of a job to the next.
use Rattle.std.proofs.Common.{◌≡◌, ◌∙◌, ap, inl, inr, sym, subst, refl, true, ℕ, List, Some, Result, Ok, Err, IfOk, IfErr, length, vec_len, arith}
use Rattle.std.proofs.lemmas.List.{length-map}
use Rattle.volume_model.specs.Plan as model
use Rattle.plan.specs.Common.{checked_model, plan_data, PlanData, model_of}
use Rattle.plan.specs.declared.checked.CheckedPlan.{CheckedPlan}
use Rattle.plan.specs.declared.fault.PlanFault.{PlanFault}
use Rattle.drivers.specs.Script.{ReadsScript}
use Rattle.drivers.specs.Seen.{asked_by}
use Rattle.drivers.specs.declared.reading.Script.{Script}
use Rattle.drivers.specs.declared.reading.ScriptFault.{ScriptFault}
use Rattle.drivers.specs.declared.reading.ScriptFault.TheVariants as scripts
use Rattle.commands.specs.Answer.{Answer, IsSaid, Says, fault_answer, unreadable}
use Rattle.commands.specs.Answers.{AnswersOf, BothAnswer, File, IsBadScript, IsText, PlanAnswers, ScriptAnswers, PrintsFleetOf, PrintsOrders, PrintsScript}
use Rattle.commands.specs.Answers.AnswersOf.{read, unread, unmade}
use Rattle.commands.specs.Answers.PlanAnswers.{faulty, certified}
use Rattle.commands.specs.Read.{IsPlanOf, IsRead, IsScriptOf}
use Rattle.commands.specs.Stops.{StopsAtLine, StopsBy, answer_of, said, script_stop, stop_answer}
use Rattle.commands.specs.FleetText.{PrintsFleet}
use Rattle.commands.specs.Verdict.{IsCertifiedText, text_fault}
use Rattle.commands.specs.declared.inputs.PlanAndScript.{PlanAndScript}
use Rattle.commands.specs.declared.reply.Reply.{Reply}
use Rattle.commands.specs.declared.reply.Stop.{Stop}
use Rattle.commands.specs.declared.reply.Stop.TheVariants as stops

-- ---- files and plans

-- what is due to the text of a file is due otherwise
pub weaker_file : (D E : List ℕ → Answer → Type 0) (file : File) (a : Answer) → ((text : List ℕ) → D text a → E text a) → AnswersOf file D a → AnswersOf file E a
weaker_file D E file a f (read text whole is d) = read text whole is (f text d)
weaker_file D E file a f (unread failed is) = unread failed is
weaker_file D E file a f (unmade is) = unmade is

-- a plan with a fault, whatever is due to one without
pub never_plan : (E : PlanData → Answer → Type 0) (text : List ℕ) (a : Answer) → PlanAnswers text (λ _ _. ⊥) a → PlanAnswers text E a
never_plan E text a (faulty fault is said) = faulty fault is said
never_plan E text a (certified whole bad) = absurd bad

pub never_certified : (E : PlanData → Answer → Type 0) (file : File) (a : Answer) → AnswersOf file (λ text. PlanAnswers text (λ _ _. ⊥)) a → AnswersOf file (λ text. PlanAnswers text E) a
never_certified E file a h = weaker_file (λ text. PlanAnswers text (λ _ _. ⊥)) (λ text. PlanAnswers text E) file a (λ text p. never_plan E text a p) h

-- the plan of a file, as its text
abbrev pub whole_text : (text : List ℕ) (plan : CheckedPlan) → IsPlanOf text plan → IsCertifiedText text
whole_text text plan h = record { plan = plan_data plan.plan; spelled = h.spelled; faultless = h.faultless; certified = h.certified }

-- a file that can't be read
pub unread_due : (E : List ℕ → Answer → Type 0) (file : File) (a : Answer) → file.failed ≡ true → IsSaid (unreadable file.name) a → AnswersOf file E a
unread_due E file a failed (inl is) = unread failed is
unread_due E file a failed (inr out) = unmade out

-- what is said to the text of a file, as it was read
pub text_due : (E : List ℕ → Answer → Type 0) (file : File) (items text : List ℕ) (a : Answer) → IsRead file (λ t. items ≡ t) → text ≡ items → Says (E text) a → AnswersOf file E a
text_due E file items text a h e (inl due) = read h.text h.whole h.is_text (subst (λ t. E t a) (e ∙ h.is_so) due)
text_due E file items text a h e (inr out) = unmade out

-- what is said to the plan of a file
pub plan_due : (D : PlanData → Answer → Type 0) (file : File) (plan : CheckedPlan) (a : Answer) → IsRead file (λ text. IsPlanOf text plan) → Says (D (plan_data plan.plan)) a → AnswersOf file (λ text. PlanAnswers text D) a
plan_due D file plan a h (inl due) = read h.text h.whole h.is_text (certified (whole_text h.text plan h.is_so) due)
plan_due D file plan a h (inr out) = unmade out

-- ---- results

-- a reply, or running out of memory
pub reply_says : (D : Answer → Type 0) (r : Result Reply Stop) → IfOk r (λ reply. D (said reply)) → IfErr r (λ stop. stop ≡ stops.NoMemory) → Says D (answer_of r)
reply_says D (Ok reply) due out = inl due
reply_says D (Err stop) due out = inr (ap stop_answer out)

-- a stop for a fault, whose answer is due
pub stop_says : (P : PlanFault → Type 0) (D : Answer → Type 0) (stop : Stop) → ((fault : PlanFault) → P fault → D (fault_answer fault)) → StopsBy P stop → Says D (stop_answer stop)
stop_says P D (stops.Plan fault) f is = inl (f fault is)
stop_says P D stops.NoMemory f is = inr refl
stop_says P D stop f bad = absurd bad

-- a reply, or such a stop
pub plan_says : (P : PlanFault → Type 0) (D : Answer → Type 0) (r : Result Reply Stop) → ((fault : PlanFault) → P fault → D (fault_answer fault)) → IfOk r (λ reply. D (said reply)) → IfErr r (StopsBy P) → Says D (answer_of r)
plan_says P D (Ok reply) f due stopped = inl due
plan_says P D (Err stop) f due stopped = stop_says P D stop f stopped

-- a stop for some fault
pub any_fault : (P : PlanFault → Type 0) (stop : Stop) → StopsBy P stop → StopsBy (λ fault. Unit {0}) stop
any_fault P (stops.Plan fault) is = tt
any_fault P stops.NoMemory is = tt
any_fault P stop bad = absurd bad

-- the text of a file has a fault, or memory ran out
pub text_stops : (file : File) (items text : List ℕ) (r : Result CheckedPlan Stop) → IsRead file (λ t. items ≡ t) → text ≡ items → IfErr r (StopsBy (λ fault. text_fault text ≡ Some fault))
    → IfErr r (λ stop. AnswersOf file (λ t. PlanAnswers t (λ _ _. ⊥)) (stop_answer stop))
text_stops file items text (Ok plan) h e s = tt
text_stops file items text (Err stop) h e s =
    text_due (λ t. PlanAnswers t (λ _ _. ⊥)) file items text (stop_answer stop) h e
    (stop_says (λ fault. text_fault text ≡ Some fault) (PlanAnswers text (λ _ _. ⊥)) stop (λ fault is. faulty fault is refl) s)

-- ---- a script over a plan

-- a refused script's fault, as why the job ends
pub line_stops : (text : List ℕ) (fault : ScriptFault) (stop : Stop) → stop ≡ script_stop fault → ReadsScript text (Err fault) → StopsAtLine text stop
line_stops text scripts.NoMemory stop e h = subst (λ (s : Stop). StopsAtLine text s) (sym e) tt
line_stops text (scripts.Line number) stop e h = subst (λ (s : Stop). StopsAtLine text s) (sym e) h

line_says : (text : List ℕ) (stop : Stop) → StopsAtLine text stop → Says (IsBadScript text) (stop_answer stop)
line_says text (stops.Line number) is = inl (record { number = number; first = is; answered = refl })
line_says text stops.NoMemory is = inr refl
line_says text stop bad = absurd bad

-- the text of a file has a bad line, or memory ran out
pub script_stops : (file : File) (items text : List ℕ) (r : Result Script Stop) → IsRead file (λ t. items ≡ t) → text ≡ items → IfErr r (StopsAtLine text) → IfErr r (λ stop. AnswersOf file IsBadScript (stop_answer stop))
script_stops file items text (Ok script) h e s = tt
script_stops file items text (Err stop) h e s = text_due IsBadScript file items text (stop_answer stop) h e (line_says text stop s)

-- what is printed of a script
abbrev pub LineResult : Type 1
LineResult = List ℕ → ℕ → List ℕ → Type 0

-- the same over a plan
abbrev pub PlanPrinting : Type 1
PlanPrinting = model.Plan → LineResult

-- nothing is printed of it
abbrev pub unreported : PlanPrinting
unreported plan script status text = ⊥

-- the plan of a file, and the bad line of a script
pub bad_script : (file script : File) (plan : CheckedPlan) (r : Result PlanAndScript Stop) → IsRead file (λ text. IsPlanOf text plan) → IfErr r (λ stop. AnswersOf script IsBadScript (stop_answer stop))
    → IfErr r (λ stop. AnswersOf file (BothAnswer unreported script) (stop_answer stop))
bad_script file script plan (Ok both) h bad = tt
bad_script file script plan (Err stop) h bad =
    read h.text h.whole h.is_text (certified (whole_text h.text plan h.is_so) (weaker_file IsBadScript (ScriptAnswers (unreported (checked_model plan))) script (stop_answer stop) (λ text b. inl b) bad))

-- where nothing is printed, anything else follows
never_script : (T : LineResult) (script : List ℕ) (a : Answer) → ScriptAnswers (λ _ _ _. ⊥) script a → ScriptAnswers T script a
never_script T script a (inl bad) = inl bad
never_script T script a (inr (none, e)) = absurd none

never_both : (T : PlanPrinting) (script : File) (text : List ℕ) (a : Answer) → BothAnswer unreported script text a → BothAnswer T script text a
never_both T script text a (faulty fault is said) = faulty fault is said
never_both T script text a (certified whole h) =
    certified whole (weaker_file (ScriptAnswers (λ _ _ _. ⊥)) (ScriptAnswers (T (model_of whole.plan))) script a (λ t b. never_script (T (model_of whole.plan)) t a b) h)

pub never_reported : (T : PlanPrinting) (script file : File) (a : Answer) → AnswersOf file (BothAnswer unreported script) a → AnswersOf file (BothAnswer T script) a
never_reported T script file a h = weaker_file (BothAnswer unreported script) (BothAnswer T script) file a (λ text p. never_both T script text a p) h

-- the result of the script of a file
script_reported : (T : LineResult) (file : File) (script : Script) (r : Result Reply Stop) → IsRead file (λ text. IsScriptOf text script)
    → ((text : List ℕ) → IsScriptOf text script → IfOk r (λ reply. IsText (T text) (said reply))) → IfErr r (λ stop. stop ≡ stops.NoMemory) → AnswersOf file (ScriptAnswers T) (answer_of r)
script_reported T file script (Ok reply) h reported none = read h.text h.whole h.is_text (inr (reported h.text h.is_so))
script_reported T file script (Err stop) h reported memory = unmade (ap stop_answer memory)

-- the same, over the plan of a file
pub both_reported : (T : PlanPrinting) (file file' : File) (plan : CheckedPlan) (script : Script) (r : Result Reply Stop) → IsRead file (λ text. IsPlanOf text plan) → IsRead file' (λ text. IsScriptOf text script)
    → ((text : List ℕ) → IsScriptOf text script → IfOk r (λ reply. IsText (T (checked_model plan) text) (said reply))) → IfErr r (λ stop. stop ≡ stops.NoMemory) → AnswersOf file (BothAnswer T file') (answer_of r)
both_reported T file file' plan script r p h reported memory =
    read p.text p.whole p.is_text (certified (whole_text p.text plan p.is_so) (script_reported (T (checked_model plan)) file' script r h reported memory))

-- the result of the run of a script's orders
pub run_reported : (plan : model.Plan) (script : Script) (r : Result Reply Stop) → IfOk r (λ reply. IsText (PrintsOrders plan script.steps.items script.orders.items) (said reply))
    → (text : List ℕ) → IsScriptOf text script → IfOk r (λ reply. IsText (PrintsScript plan text) (said reply))
run_reported plan script (Ok reply) (reported, quiet) text is = (
  record {
    actions = is.actions;
    spelled = is.spelled;
    orders = script.orders.items;
    asked = is.keeps.orders_are;
    reported = subst (λ steps. PrintsOrders plan steps script.orders.items reply.status reply.out.items) is.keeps.steps_are reported;
  },
  quiet,
)
run_reported plan script (Err stop) reported text is = tt

-- the result of a run of as many orders on threads
pub fleet_reported : (plan : model.Plan) (script : Script) (r : Result Reply Stop) → IfOk r (λ reply. IsText (PrintsFleet plan (vec_len script.orders)) (said reply))
    → (text : List ℕ) → IsScriptOf text script → IfOk r (λ reply. IsText (PrintsFleetOf plan text) (said reply))
fleet_reported plan script (Ok reply) (reported, quiet) text is =
    let len : vec_len script.orders ≡ length script.orders.items = omega (arith, script.orders.ok.0) in
    let counted = len ∙ sym (length-map script.orders.items asked_by) ∙ ap length is.keeps.orders_are in
    (record { actions = is.actions; spelled = is.spelled; reported = subst (λ n. PrintsFleet plan n reply.status reply.out.items) counted reported }, quiet)
fleet_reported plan script (Err stop) reported text is = tt
