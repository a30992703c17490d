use Rattle.std.proofs.Common.{sym}
use Rattle.redo_record.specs.RecordSet.{records_of}
use Rattle.redo_record.proofs.Groups.{every-of}
use Rattle.redo_record.proofs.record_set.RecordSet.is_of.Goals as goal
use Rattle.std.proofs.lemmas.Grind.{common_steps}
use Rattle.std.proofs.Common.{arith}

pub returns-then-is_known_of : goal.returns-then-is_known_of
returns-then-is_known_of c = sym (every-of c.args.group (records_of c.args.self.now) (c.is_known_of.ensures c.if-is_known_of.true))

pub returns-then-not-are_of : goal.returns-then-not-are_of
returns-then-not-are_of c = grind (arith, common_steps)

pub loop-run-preserved : goal.loop-run-preserved
loop-run-preserved c = grind (arith, common_steps)

pub returns : goal.returns
returns c = grind (arith, common_steps)
