use Rattle.std.proofs.Common.{◌∙◌, map, sym, ap}
use Rattle.redo_record.specs.Common.{shared_redo}
use Rattle.pages.proofs.Runs.{packets-of_block}
use Rattle.segment_core.specs.BlockRecords.{records_in}
use Rattle.segment_core.proofs.block_records.BlockRecords.page.Goals as goal

pub page_of-requires : goal.page_of-requires
page_of-requires c = packets-of_block c.args.block c.deref.result.now (records_in c.args.self.now) (ap (map shared_redo) c.deref.ensures.value ∙ sym (ap records_in c.in-AsList.is)) c.requires
