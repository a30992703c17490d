use Rattle.std.proofs.Common.{refl}
use Rattle.writer_core.proofs.writer.Writer.volume.Goals as goal

pub returns : goal.returns
returns c = refl
