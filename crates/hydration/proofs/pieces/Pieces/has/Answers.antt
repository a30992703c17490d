use Rattle.std.proofs.Common.{arith}
use Rattle.hydration.proofs.Marks.{length-marks, marks-read, none-above}
use Rattle.hydration.proofs.pieces.Pieces.has.Goals as goal
use Rattle.std.proofs.lemmas.Grind.{common_steps}

pub returns-then-number-self : goal.returns-then-number-self
returns-then-number-self c = grind (arith, common_steps, c.if-number-self.true, none-above)

pub index-requires : goal.index-requires
index-requires c = grind (arith, common_steps, c.if-number-self.false, c.from.ensures, length-marks)

pub returns : goal.returns
returns c = grind (arith, common_steps, c.from.ensures, c.index.ensures, c.if-number-self.false, marks-read)
