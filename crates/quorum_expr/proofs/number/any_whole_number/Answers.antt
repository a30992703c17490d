use Rattle.serde_json.specs.Read.{number_of}
use Rattle.quorum_expr.proofs.number.any_whole_number.Goals as goal
use Rattle.std.proofs.lemmas.Grind.{common_steps}
use Rattle.std.proofs.Common.{arith}

pub returns-then-has_minus : goal.returns-then-has_minus
unfolding number_of
returns-then-has_minus c = grind (arith, common_steps)

pub returns : goal.returns
unfolding number_of
returns c = grind (arith, common_steps)
