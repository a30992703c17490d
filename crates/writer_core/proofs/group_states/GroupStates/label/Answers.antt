use Rattle.std.proofs.Common.{ap}
use Rattle.volume_model.specs.Common.{Label}
use Rattle.writer_core.proofs.group_states.GroupStates.label.Goals as goal

pub returns : goal.returns
returns c = ap (λ n. let label : Label = record { volume = c.args.volume; member = n } in label) c.epoch.ensures
