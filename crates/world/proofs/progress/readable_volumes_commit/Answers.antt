use Rattle.world.proofs.Onward.{readable_volumes_commit}
use Rattle.world.proofs.progress.readable_volumes_commit.Goals as goal

pub returns : goal.returns
returns c = readable_volumes_commit
