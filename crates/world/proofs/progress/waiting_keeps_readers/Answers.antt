use Rattle.world.proofs.Waiting.{waiting_keeps}
use Rattle.world.proofs.progress.waiting_keeps_readers.Goals as goal

pub returns : goal.returns
returns c = waiting_keeps
