use Rattle.hydration.proofs.Marks.{complete-kept}
use Rattle.hydration.proofs.pieces.Pieces.is_complete.Goals as goal

pub returns : goal.returns
returns c = complete-kept c.args.self.now c.len.result c.from.result c.len.ensures c.from.ensures c.args.self.now.once
