use Rattle.std.proofs.Common.{subst, eqb-true}
use Rattle.redo_record.specs.Groups.{AreOf}
use Rattle.redo_record.specs.RecordSet.{records_of}
use Rattle.redo_record.proofs.record_set.RecordSet.is_known_of.Goals as goal

pub returns-in-Some : goal.returns-in-Some
returns-in-Some c same =
    subst (λ group. AreOf group (records_of c.args.self.now)) (eqb-true c.in-Some.known_group c.args.group same) (c.args.self.now.of_known_group c.in-Some.known_group c.in-Some.is)
