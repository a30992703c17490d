use Rattle.volume_model.proofs.Growing.{messages_grow, refused_same}
use Rattle.volume_model.proofs.actors.messages_grow.Goals as goal

pub returns : goal.returns
returns c = record { grow = messages_grow; refused = refused_same }
