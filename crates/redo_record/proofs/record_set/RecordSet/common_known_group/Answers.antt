use Rattle.redo_record.specs.RecordSet.{records_of}
use Rattle.redo_record.proofs.Groups.{known_group-some}
use Rattle.redo_record.proofs.record_set.RecordSet.common_known_group.Goals as goal

pub returns-then-is_known_of-2-clause-own : goal.returns-then-is_known_of-2-clause-own
returns-then-is_known_of-2-clause-own c = known_group-some _ (records_of c.args.self.now) (c.is_known_of.ensures c.if-is_known_of.true)

pub returns-then-is_known_of-2-clause-others : goal.returns-then-is_known_of-2-clause-others
returns-then-is_known_of-2-clause-others c = known_group-some _ (records_of c.args.other.now) (c.is_known_of-then-is_known_of.ensures c.if-is_known_of-2.true)
