use Rattle.redo_record.proofs.Fields.{IsOrderOf, order-then}
use Rattle.redo_record.proofs.Order.{is_lt-numbers, is_eq-numbers}
use Rattle.redo_record.proofs.comparing.compare_bytes.Goals as goal
use Rattle.std.proofs.lemmas.Grind.{common_steps}
use Rattle.std.proofs.Common.{arith}

pub returns-clause-same : goal.returns-clause-same
returns-clause-same c = grind (arith, common_steps, c.then.ensures, c.cmp.ensures, c.cmp-2.ensures, c.as_slice-own.ensures.value, c.as_slice-others.ensures.value, IsOrderOf, order-then, is_lt-numbers, is_eq-numbers)

pub returns-clause-before : goal.returns-clause-before
returns-clause-before c = grind (arith, common_steps, c.then.ensures, c.cmp.ensures, c.cmp-2.ensures, c.as_slice-own.ensures.value, c.as_slice-others.ensures.value, IsOrderOf, order-then, is_lt-numbers, is_eq-numbers)
