-- What an exit status says.
use Rattle.std.proofs.Common.{◌≡◌, ◌∙◌, ap, inl, inr, subst, sym, ℕ, ◌<◌, List, [], Bool, true, false, Option, Some, None, IfSome, take, arith}
use Rattle.plan.specs.Common.{is_input, PlanData}
use Rattle.commands.specs.Answer.{Answer, line_answer}
use Rattle.commands.specs.Answers.{AnswersOf, ChecksTo, File, PlanAnswers}
use Rattle.commands.specs.Answers.AnswersOf.{read, unread, unmade}
use Rattle.commands.specs.Answers.PlanAnswers.{faulty, certified}
use Rattle.commands.specs.Reports.{ExplainsAs}
use Rattle.commands.specs.Searched.{SearchesTo}
use Rattle.commands.specs.Streams.{Delivers, Ends, Gets, IsTextOf}
use Rattle.commands.specs.Streams.Delivers.{given, unreported, unprinted}
use Rattle.commands.specs.Verdict.{IsCertifiedText, IsFaultyText}
use Rattle.commands.specs.declared.outputs.Output.{Output}
use Rattle.commands.proofs.Searching.{is_quiet}

-- the text of a file whose bytes are known
known : (P : List ℕ → Type 0) (o : Option (List ℕ)) (text : List ℕ) → IsTextOf o text → P text → IfSome o (λ bytes. P (take 16777217 bytes))
known P None text is p = tt
known P (Some bytes) text is p = subst P is p

-- a line is no yes, and that of an input is no refusal either
pub not_yes : (a : Answer) (input : Bool) (line : List ℕ) → a ≡ line_answer input line → a.status ≡ 0 → ⊥
not_yes a true line e zero = let two = ap (λ (b : Answer). b.status) e in absurd (omega arith)
not_yes a false line e zero = let one = ap (λ (b : Answer). b.status) e in absurd (omega arith)

not_no : (a : Answer) (line : List ℕ) → a ≡ line_answer true line → a.status ≡ 1 → ⊥
not_no a line e one = let two = ap (λ (b : Answer). b.status) e in absurd (omega arith)

-- an answer below 2 was given
was_given : {O E : Type 0} {out : O → Option (List ℕ)} {err : E → Option (List ℕ)} {a : Answer} {status : ℕ} {out_old out_new : Output O} {err_old err_new : Output E}
    → Delivers out err a status out_old out_new err_old err_new → status < 2 → (status ≡ a.status) × Gets err err_old err_new a.err
was_given (given is printed reported) small = (is, reported)
was_given (unreported is broken same) small = absurd (omega arith)
was_given (unprinted is broken line) small = absurd (omega arith)

-- a status below 2 is that of the answer, and what it says to standard error was written
pub ends_below : {O E : Type 0} {out : O → Option (List ℕ)} {err : E → Option (List ℕ)} {Due : Answer → Type 0} {status : ℕ} {out_old out_new : Output O} {err_old err_new : Output E}
    → Ends out err Due status out_old out_new err_old err_new → status < 2 → (a : Answer) × Due a × (status ≡ a.status) × Gets err err_old err_new a.err
ends_below h small = let was = was_given h.given small in (h.answer, h.due, was.0, was.1)

-- a line with a status below 2 is no input's, so that nothing is written to standard error
pub line_quiet : (a : Answer) (input : Bool) (line : List ℕ) → a ≡ line_answer input line → a.status < 2 → a.err ≡ []
line_quiet a true line e small = let two = ap (λ (b : Answer). b.status) e in absurd (omega arith)
line_quiet a false line e small = ap (λ (b : Answer). b.err) e

-- the answer 0 about a plan's text, whatever is said of a plan without a fault
pub certified_by : {D : PlanData → Answer → Type 0} (text : List ℕ) (a : Answer) → PlanAnswers text D a → a.status ≡ 0 → IsCertifiedText text
certified_by text a (faulty fault bad said) zero = absurd (not_yes a (is_input fault) _ said zero)
certified_by text a (certified h said) zero = h

-- the same of an explanation
pub explained_yes : (json : Bool) (text : List ℕ) (a : Answer) → ExplainsAs json text a → a.status ≡ 0 → IsCertifiedText text
explained_yes true text a due zero = certified_by text due.checked due.due (sym due.is.status_is ∙ zero)
explained_yes false text a due zero = certified_by text due.checked due.due (sym (ap (λ (b : Answer). b.status) due.is) ∙ zero)

-- the same of the text of a file
pub yes_of : (D : List ℕ → Answer → Type 0) (file : File) (a : Answer) → ((text : List ℕ) → D text a → a.status ≡ 0 → IsCertifiedText text) → AnswersOf file D a → a.status ≡ 0
    → IfSome file.known (λ bytes. IsCertifiedText (take 16777217 bytes))
yes_of D file a f (read text whole is due) zero = known IsCertifiedText file.known text is (f text due zero)
yes_of D file a f (unread failed said) zero = absurd (not_yes a true _ said zero)
yes_of D file a f (unmade said) zero = absurd (not_yes a true _ said zero)

-- the answer 1 of a check
pub no_due : (file : File) (a : Answer) → AnswersOf file ChecksTo a → a.status ≡ 1 → IfSome file.known (λ bytes. IsFaultyText (take 16777217 bytes))
no_due file a (read text whole is (faulty fault bad said)) one = known IsFaultyText file.known text is (fault, bad)
no_due file a (read text whole is (certified h said)) one = let zero = ap (λ (b : Answer). b.status) said in absurd (omega arith)
no_due file a (unread failed said) one = absurd (not_no a _ said one)
no_due file a (unmade said) one = absurd (not_no a _ said one)

-- the answer 0 of a search says nothing to standard error
pub search_silent : (file : File) (a : Answer) → AnswersOf file SearchesTo a → a.status ≡ 0 → a.err ≡ []
search_silent file a (read text whole is (inl (fault, bad, said))) zero = absurd (not_yes a (is_input fault) _ said zero)
search_silent file a (read text whole is (inr reported)) zero = is_quiet text a.status a.out a.err reported zero
search_silent file a (unread failed said) zero = absurd (not_yes a true _ said zero)
search_silent file a (unmade said) zero = absurd (not_yes a true _ said zero)
