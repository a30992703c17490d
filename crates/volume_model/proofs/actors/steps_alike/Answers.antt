use Rattle.volume_model.proofs.Alike.{refused_alike, made_alike}
use Rattle.volume_model.proofs.actors.steps_alike.Goals as goal

pub returns : goal.returns
returns c = record { refused = refused_alike; made = made_alike }
