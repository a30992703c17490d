use Rattle.volume_model.proofs.Worlds.{runs_push, first_is, messages_push}
use Rattle.volume_model.proofs.actors.runs_go_on.Goals as goal

pub returns : goal.returns
returns c = record { push = runs_push; firsts = first_is; messages = messages_push }
