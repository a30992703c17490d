use Rattle.hydration.proofs.Marks.{complete-more}
use Rattle.hydration.proofs.pieces.Pieces.is_complete_with.Goals as goal
use Rattle.std.proofs.lemmas.Grind.{common_steps}
use Rattle.std.proofs.Common.{arith}

pub returns-in-Append : goal.returns-in-Append
returns-in-Append c = grind (arith, common_steps, c.in-Append.is, c.requires, c.len.ensures, c.from.ensures, complete-more)
