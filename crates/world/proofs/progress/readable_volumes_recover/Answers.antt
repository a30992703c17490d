use Rattle.world.proofs.Readable.{readable_volumes_recover}
use Rattle.world.proofs.progress.readable_volumes_recover.Goals as goal

pub returns : goal.returns
returns c = readable_volumes_recover
