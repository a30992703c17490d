-- What is answered where the word behind `explain` is the number of a refusal.
use Rattle.std.specs.Prelude.{◌≡◌, ◌<◌, ◌^◌, ℕ, List, ◌++◌, true, Option, Some, None, codes}
use Rattle.std.specs.Fmt.{decimal}
use Rattle.volume_model.specs.Common.{fault_text, number_of}
use Rattle.volume_model.specs.declared.fault.Fault.{Fault}
use Rattle.commands.specs.Answer.{Answer, line_answer, no_memory, printed}
use Rattle.commands.specs.Answers.{AnswersOf, file_of}
use Rattle.commands.specs.Jobs.{IsNumberOf}
use Rattle.commands.specs.Reports.{ExplainsAs}
use Rattle.commands.specs.ShownName.{shown_name}
use Rattle.commands.specs.declared.action.Action.TheVariants.{Explain}
use Rattle.commands.specs.declared.action.Job.{Job}
use Rattle.commands.specs.declared.files.Source.{Source}

-- The name isn't a number below 256, so it is a file's.
abbrev pub IsFileName : List ℕ → Type 0
IsFileName name = (number : ℕ) → number < 2 ^ 8 → IsNumberOf (Some name) number → ⊥

-- The job doesn't ask for a refusal by its number.
abbrev pub HasFile : Job → Type 0
HasFile job = job.action ≡ Explain → job.script ≡ None → IsFileName job.plan.now

-- no refusal has the number
abbrev pub unknown_number : ℕ → Answer
unknown_number number = line_answer true (codes "input: no refusal has the number " ++ decimal number ++ codes "\n")

-- The answer to a number: the line of the refusal with it, followed by words; or that there is none.
pub data AnswersNumber (number : ℕ) (answer : Answer) : Type 0 where
  known : (fault : Fault) → number_of fault ≡ number → (words : List ℕ) → answer ≡ printed 0 (fault_text fault
      ++ codes "\n" ++ words) → AnswersNumber number answer
  unknown : answer ≡ unknown_number number → AnswersNumber number answer
  unmade : answer ≡ no_memory → AnswersNumber number answer

-- The answer of an explanation: to a number, as above; else to the text of the file, as JSON or in words. Control
-- characters of the file's name are escaped.
pub data ExplainsJob {R : Type 0} (remaining : R → Option (List ℕ)) (job : Job) (old new : Source R)
    (answer : Answer) : Type 0 where
  of_number : (number : ℕ) → IsNumberOf (Some job.plan.now) number → AnswersNumber number answer
      → ExplainsJob remaining job old new answer
  of_file : IsFileName job.plan.now
      → AnswersOf (file_of remaining (shown_name job.plan.now) old new) (ExplainsAs job.json) answer
      → ExplainsJob remaining job old new answer
