use Rattle.std.proofs.Common.{rules}
use Rattle.board.proofs.Keeps.{returns}
use Rattle.board.proofs.Board.take_back.Goals as goal

pub join_seat-requires : goal.join_seat-requires
join_seat-requires c = (search rules, search rules, search rules, search rules, returns _ _ _ _ _)
