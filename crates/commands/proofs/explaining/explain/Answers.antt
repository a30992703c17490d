use Rattle.std.proofs.Common.{arith}
use Rattle.commands.specs.FaultQuery.ExplainsJob.{of_file, of_number}
use Rattle.commands.proofs.explaining.explain.Goals as goal

pub returns-in-Some-clause-answers : goal.returns-in-Some-clause-answers
returns-in-Some-clause-answers g c = record {
  explains = of_number c.in-Some.number c.in-Some.ensures.number c.explain_number.ensures;
  of_file = λ file. absurd (file c.in-Some.number (omega arith) c.in-Some.ensures.number);
}

pub returns-in-None-clause-answers : goal.returns-in-None-clause-answers
returns-in-None-clause-answers g c = record {
  explains = of_file c.in-None.ensures.none c.explain_file.ensures.answers;
  of_file = λ file. c.explain_file.ensures.answers;
}
