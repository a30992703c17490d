use Rattle.volume_model.proofs.ActorSteps.{step_of_actor}
use Rattle.volume_model.proofs.actors.steps_are_of_actors.Goals as goal

pub returns : goal.returns
returns c = step_of_actor
