use Rattle.world.proofs.Lost.{early_steps_lose}
use Rattle.world.proofs.progress.early_steps_lose.Goals as goal

pub returns : goal.returns
returns c = early_steps_lose
