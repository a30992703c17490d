use Rattle.volume_c.proofs.Joins.{last_ack}
use Rattle.volume_c.proofs.laws.last_ack_suffices.Goals as goal

pub returns : goal.returns
returns c = last_ack
