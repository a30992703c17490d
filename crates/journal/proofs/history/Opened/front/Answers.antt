use Rattle.std.proofs.Common.{rules}
use Rattle.journal.proofs.Growing.{splits}
use Rattle.journal.proofs.history.Opened.front.Goals as goal

pub split_seat-seat-requires : goal.split_seat-seat-requires
split_seat-seat-requires c = (search rules, search rules, splits _ _)
