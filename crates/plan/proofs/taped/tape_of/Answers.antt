use Rattle.std.proofs.Common.{Err, ap}
use Rattle.quorum_expr.proofs.Passing.{read-invalid, read-refused}
use Rattle.plan.proofs.TapeTexts.{no-plan}
use Rattle.plan.proofs.taped.tape_of.Goals as goal
use Rattle.std.proofs.lemmas.Grind.{common_steps}
use Rattle.std.proofs.Common.{arith}

pub returns-in-Err-Invalid-clause-fault : goal.returns-in-Err-Invalid-clause-fault
returns-in-Err-Invalid-clause-fault c = λ other. no-plan c.args.text.now c.requires.size c.requires.utf8 (read-invalid c.args.text.now (c.in-Err-Invalid.ensures.invalid (ap Err c.in-Err-Invalid.field-0-is)))

pub returns-then-not-is_readable-clause-fault : goal.returns-then-not-is_readable-clause-fault
returns-then-not-is_readable-clause-fault c = grind (arith, common_steps, c.requires.size, c.requires.utf8, c.in-Ok.ensures.ok.0, c.in-Ok.ensures.ok.1, c.is_readable.ensures, c.if-not-is_readable.true, no-plan, read-refused)
