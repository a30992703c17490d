-- The answer of an explanation.
use Rattle.std.specs.Prelude.{◌≡◌, ℕ, List, [], ◌∷◌, ◌++◌}
use Rattle.commands.specs.Answer.{Answer}
use Rattle.commands.specs.Answers.{ChecksTo}

-- a text with these lines above it, unless it is empty
abbrev pub above : List ℕ → List ℕ → List ℕ
above lines [] = []
above lines (x ∷ xs) = lines ++ x ∷ xs

-- an answer with these lines above its own, on the same output
abbrev pub below : List ℕ → Answer → Answer
below lines answer = record { status = answer.status; out = above lines answer.out; err = above lines answer.err }

-- The answer of an explanation to a plan's text: that of a check, with lines above it, which describe the plan or the
-- place where the text isn't a plan's.
pub record ExplainsTo (text : List ℕ) (answer : Answer) : Type 0 where
  pub lines : List ℕ
  pub checked : Answer
  pub due : ChecksTo text checked
  pub is : answer ≡ below lines checked
