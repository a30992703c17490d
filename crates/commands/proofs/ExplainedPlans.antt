-- What an explanation says of a plan.
use Rattle.std.proofs.Common.{◌≡◌, ◌∙◌, ap, sym, subst, refl, ℕ, List, [], ◌∷◌, ◌++◌, append_assoc, Bool, true, false, codes, Some, Ok, Err, None}
use Rattle.plan.specs.Common.{checked_model, is_input, plan_data, PlanData, plan_fault_text, plan_fault, plan_of}
use Rattle.plan.specs.declared.checked.CheckedPlan.{CheckedPlan}
use Rattle.plan.specs.declared.configurations.Plan.{Plan}
use Rattle.plan.specs.declared.fault.PlanFault.{PlanFault}
use Rattle.volume_model.specs.Common.{IsCertified}
use Rattle.commands.specs.Answer.{fault_answer, line_answer, printed}
use Rattle.commands.specs.Answers.PlanAnswers.{faulty, certified}
use Rattle.commands.specs.Explains.{ExplainsTo, above, below}
use Rattle.commands.specs.Read.{IsPlanOf}
use Rattle.commands.specs.RunText.{plan_line}
use Rattle.commands.specs.Stops.{StopsBy, is_input_stop, stop_line}
use Rattle.commands.specs.Verdict.{first_fault, text_fault}
use Rattle.commands.specs.declared.reply.Stop.{Stop}
use Rattle.commands.specs.declared.reply.Stop.TheVariants as stops
use Rattle.commands.proofs.Due.{whole_text}

-- a line isn't empty
above_line : (lines line : List ℕ) → above lines (line ++ codes "\n") ≡ lines ++ (line ++ codes "\n")
above_line lines [] = refl
above_line lines (x ∷ xs) = refl

-- the line of a fault, with lines above it
lined : (lines line : List ℕ) (input : Bool) → line_answer input (lines ++ (line ++ codes "\n")) ≡ below lines (line_answer input (line ++ codes "\n"))
lined lines line true = ap (λ t. line_answer true t) (sym (above_line lines line))
lined lines line false = ap (λ t. line_answer false t) (sym (above_line lines line))

-- the same of the text's first fault
pub explains_fault : (text lines : List ℕ) (fault : PlanFault) → text_fault text ≡ Some fault → ExplainsTo text (line_answer (is_input fault) (lines ++ (plan_fault_text fault ++ codes "\n")))
explains_fault text lines fault is = record {
  lines = lines;
  checked = fault_answer fault;
  due = faulty fault is refl;
  is = lined lines (plan_fault_text fault) (is_input fault);
}

-- the fault of a text, and its place
pub explains_placed : (text lines : List ℕ) (fault : PlanFault) → plan_of text ≡ Err fault → ExplainsTo text (line_answer (is_input fault) (lines ++ plan_fault_text fault ++ codes "\n"))
explains_placed text lines fault is =
    subst (λ t. ExplainsTo text (line_answer (is_input fault) t)) (sym (append_assoc lines (plan_fault_text fault) (codes "\n"))) (explains_fault text lines fault (ap first_fault is))

-- lines, and the line of a plan without a fault
explains_yes : (text words line all : List ℕ) (plan : CheckedPlan) → IsPlanOf text plan → line ≡ plan_line (checked_model plan) → all ≡ words ++ line → ExplainsTo text (printed 0 all)
explains_yes text words line all plan h l e = record {
  lines = words;
  checked = printed 0 (plan_line (checked_model plan));
  due = certified (whole_text text plan h) refl;
  is = ap (printed 0) (e ∙ ap (λ t. words ++ t) l);
}

-- the same of a plan as it was read and checked, with the words of its line under another name
pub explains_checked : (text words line shown all : List ℕ) (plan : Plan) (checked : CheckedPlan) → plan_of text ≡ Ok (plan_data plan) → checked.plan ≡ plan → plan_fault (plan_data plan) ≡ None → IsCertified (checked_model checked)
    → line ≡ plan_line (checked_model checked) → shown ≡ line → all ≡ words ++ shown → ExplainsTo text (printed 0 all)
explains_checked text words line shown all plan checked spelled same faultless holds l s e =
    explains_yes text words line all checked
    (record { spelled = spelled ∙ ap (λ p. Ok (plan_data p)) (sym same); faultless = ap (λ p. plan_fault (plan_data p)) same ∙ faultless; certified = holds })
    l (e ∙ ap (λ t. words ++ t) s)

-- lines, and the line of the plan's first fault
pub explains_no : (text lines all : List ℕ) (plan : PlanData) (stop : Stop) → plan_of text ≡ Ok plan → StopsBy (λ fault. plan_fault plan ≡ Some fault) stop → is_input_stop stop ≡ false → all ≡ lines ++ stop_line stop
    → ExplainsTo text (printed 1 all)
explains_no text lines all plan (stops.Plan fault) spelled is refused e =
    subst (λ a. ExplainsTo text a) (ap (λ input. line_answer input (lines ++ stop_line (stops.Plan fault))) refused ∙ ap (printed 1) (sym e))
    (explains_fault text lines fault (ap first_fault spelled ∙ is))
explains_no text lines all plan stops.NoMemory spelled is refused e = absurd cc
explains_no text lines all plan stop spelled bad refused e = absurd bad
