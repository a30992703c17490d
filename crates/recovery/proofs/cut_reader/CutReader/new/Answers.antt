use Rattle.recovery.proofs.Cuts.{cut-of_none}
use Rattle.recovery.proofs.cut_reader.CutReader.new.Goals as goal
use Rattle.std.proofs.Common.{refl}

pub returns : goal.returns
returns c = cut-of_none _ c.new.ensures refl
