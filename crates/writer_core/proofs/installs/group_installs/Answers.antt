use Rattle.std.proofs.Common.{◌≡◌, arith}
use Rattle.volume_model.specs.Common.{to_install, Lineage, Redo, of_group}
use Rattle.redo_record.specs.declared.record_set.RecordSet.{RecordSet}
use Rattle.writer_core.specs.Logs.{log_of_set}
use Rattle.writer_core.proofs.installs.group_installs.Goals as goal
use Rattle.std.proofs.lemmas.Grind.{common_steps}

pub loop-piece-preserved : goal.loop-piece-preserved
loop-piece-preserved c = grind (arith, common_steps)

pub returns : goal.returns
returns c = grind (arith, common_steps)
