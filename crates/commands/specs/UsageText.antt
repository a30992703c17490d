-- The answer if the words of the command line name no job.
use Rattle.std.specs.Prelude.{ℕ, List, true}
use Rattle.commands.specs.Usage.{IsAskedFor}
use Rattle.commands.specs.declared.usage.Usage.{Usage}
use Rattle.commands.specs.Answer.{Answer, line_answer, no_memory, printed}

-- The help or the version, if the words ask for it, is printed with status 0; a mistake is printed to standard error
-- with status 2. If memory ran out, that is printed.
pub data AnswersUsage (usage : Usage) : Answer → Type 0 where
  asked_for : (text : List ℕ) → IsAskedFor usage → AnswersUsage usage (printed 0 text)
  mistaken : (text : List ℕ) → (IsAskedFor usage → ⊥) → AnswersUsage usage (line_answer true text)
  wanting : AnswersUsage usage no_memory
