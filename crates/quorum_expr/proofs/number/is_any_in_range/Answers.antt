use Rattle.std.proofs.Common.{arith}
use Rattle.serde_json.specs.Read.{number_of}
use Rattle.quorum_expr.proofs.number.is_any_in_range.Goals as goal
use Rattle.std.proofs.lemmas.Grind.{common_steps}

pub returns-then-has_minus : goal.returns-then-has_minus
unfolding number_of
returns-then-has_minus c = grind (arith, common_steps)

pub returns-else-has_minus : goal.returns-else-has_minus
unfolding number_of
returns-else-has_minus c = grind (arith, common_steps)
