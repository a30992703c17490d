use Rattle.volume_model.proofs.FoundMessages.{numbered_later, made_numbered, names_before}
use Rattle.volume_model.proofs.actors.messages_are_found.Goals as goal

pub returns : goal.returns
returns c = record { later = numbered_later; made = made_numbered; named = names_before }
