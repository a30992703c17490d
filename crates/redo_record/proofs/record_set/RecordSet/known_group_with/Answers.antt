use Rattle.redo_record.proofs.Groups.{known_group-some, of-more}
use Rattle.redo_record.proofs.record_set.RecordSet.known_group_with.Goals as goal
use Rattle.std.proofs.Common.{rules}

pub returns-then-is_known_of : goal.returns-then-is_known_of
returns-then-is_known_of c = search (rules, c.group-group.ensures, c.is_known_of.ensures, c.if-is_known_of.true, known_group-some, of-more)
