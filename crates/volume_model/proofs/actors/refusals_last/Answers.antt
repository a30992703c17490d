use Rattle.volume_model.proofs.Judges.{noted_at_last, refused_longer}
use Rattle.volume_model.proofs.actors.refusals_last.Goals as goal

pub returns : goal.returns
returns c = record { noted = noted_at_last; longer = refused_longer }
