use Rattle.std.proofs.Common.{rules}
use Rattle.journal.proofs.Growing.{compares, joins}
use Rattle.journal.proofs.history.Opened.meet.Goals as goal

pub join_seat-requires : goal.join_seat-requires
join_seat-requires c = (search rules, search rules, search rules, search rules, joins _ _ _ _)

pub load-requires : goal.load-requires
load-requires c = (search rules, search rules, compares _ _ _ (search rules))
