use Rattle.std.proofs.Common.{arith, decimal}
use Rattle.quorum_expr.proofs.Digits.{one_digit, two_digits}
use Rattle.quorum_expr.proofs.number.short_number.Goals as goal
use Rattle.std.proofs.lemmas.Grind.{common_steps}

pub returns-then-bytes-eq1-clause-is : goal.returns-then-bytes-eq1-clause-is
returns-then-bytes-eq1-clause-is c = grind (arith, common_steps, c.as_bytes-bytes.ensures.value, c.in_ok-number.ensures.small, c.in_ok-number.ensures.is, one_digit, decimal)

pub returns-clause-is : goal.returns-clause-is
returns-clause-is c = grind (arith, common_steps, c.if-bytes-eq48.false, c.in_ok-tens.ensures.small, c.in_ok-ones.ensures.small, c.as_bytes-bytes.ensures.value, c.in_ok-tens.ensures.is, c.in_ok-ones.ensures.is, two_digits, decimal)
