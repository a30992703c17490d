use Rattle.volume_model.proofs.Worlds.{agree_at_last}
use Rattle.volume_model.proofs.actors.agrees_at_last.Goals as goal

pub returns : goal.returns
returns c = agree_at_last
