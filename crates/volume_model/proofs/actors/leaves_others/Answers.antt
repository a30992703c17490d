use Rattle.volume_model.proofs.Frames.{frame}
use Rattle.volume_model.proofs.actors.leaves_others.Goals as goal

pub returns : goal.returns
returns c = frame
