use Rattle.std.proofs.Common.{◌∙◌, map, sym, ap, subst}
use Rattle.redo_record.specs.Common.{shared_redo}
use Rattle.segment_core.specs.BlockRecords.{records_in, IsLastOf}
use Rattle.segment_core.proofs.LastRecords.{last-shown}
use Rattle.segment_core.proofs.block_records.BlockRecords.last.Goals as goal

pub returns-in-AsList : goal.returns-in-AsList
returns-in-AsList c = subst (λ rs. IsLastOf rs c.last.result) (ap (map shared_redo) c.deref.ensures.value ∙ sym (ap records_in c.in-AsList.is)) (last-shown c.deref.result.now c.last.result c.last.ensures.value)
