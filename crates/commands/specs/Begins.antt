-- The answer of `new`.
use Rattle.std.specs.Prelude.{◌≡◌, ℕ, List, true}
use Rattle.plan_edit.specs.Requests.{IsRequested}
use Rattle.plan_edit.specs.declared.requests.PlanRequest.{PlanRequest}
use Rattle.commands.specs.Answer.{Answer, line_answer, printed}

-- The answer to the words of a new plan: the line of a plan without a fault, which is what they ask for; or a line that
-- says why there is none; or, on standard error, one that says why the words can't be used, or that memory ran out.
pub data BeginsTo (request : PlanRequest) (answer : Answer) : Type 0 where
  begun : (line : List ℕ) → IsRequested request line → answer ≡ printed 0 line → BeginsTo request answer
  refused : (line : List ℕ) → answer ≡ printed 1 line → BeginsTo request answer
  unusable : (line : List ℕ) → answer ≡ line_answer true line → BeginsTo request answer
