use Rattle.volume_c.proofs.Replays.{replays_reach}
use Rattle.volume_c.proofs.laws.replay_reaches.Goals as goal

pub returns : goal.returns
returns c = replays_reach
