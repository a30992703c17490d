-- What is made of a checked plan.
use Rattle.std.specs.Prelude.{◌≡◌, ◌≤◌, ℕ, List, []}
use Rattle.commands.specs.Answer.{Answer}
use Rattle.commands.specs.Answers.{PlanAnswers}

-- a text and a status of at most 1
abbrev pub IsMade : Answer → Type 0
IsMade answer = (answer.status ≤ 1) × (answer.err ≡ [])

-- The answer to a plan's text: its first fault; or it has none, and the answer is a text and a status of at most 1.
abbrev pub MakesTo : List ℕ → Answer → Type 0
MakesTo text answer = PlanAnswers text (λ plan. IsMade) answer
