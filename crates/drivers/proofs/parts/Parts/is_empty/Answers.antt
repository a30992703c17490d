use Rattle.drivers.proofs.Splits.{none_left}
use Rattle.drivers.proofs.parts.Parts.is_empty.Goals as goal

pub returns : goal.returns
returns c = none_left c.args.self.now.separator c.args.self.now.left c.is_none.result c.is_none.ensures
