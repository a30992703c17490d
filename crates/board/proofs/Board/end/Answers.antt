use Rattle.std.proofs.Common.{arith}
use Rattle.board.proofs.Keeps.{ends}
use Rattle.board.proofs.Board.end.Goals as goal

pub returns : goal.returns
returns c = ends _ _ _ _ _ _ (omega (arith, c.requires.all, c.args.seats.dealt)) c.close_with-closed.ensures.values.2 c.word-number.ensures
