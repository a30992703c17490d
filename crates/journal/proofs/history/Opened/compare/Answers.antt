use Rattle.std.proofs.Common.{rules}
use Rattle.journal.proofs.Growing.{returns}
use Rattle.journal.proofs.history.Opened.compare.Goals as goal

pub split_seat-seat-requires : goal.split_seat-seat-requires
split_seat-seat-requires c = (search rules, search rules, returns _ _)
