use Rattle.redo_record.specs.Common.{shared_redo}
use Rattle.redo_record.proofs.Places.{ordered-from}
use Rattle.segment_core.specs.Blocks.{block_records}
use Rattle.segment_core.proofs.BlockLists.{blocks_more}
use Rattle.segment_core.proofs.PageIndexes.{are_kept, shown}
use Rattle.segment_core.proofs.records.add_to_index.Goals as goal

pub returns-in-Some-index : goal.returns-in-Some-index
returns-in-Some-index c r records shows order are =
    blocks_more records r (shared_redo c.in-Some.of_block.packet) (block_records c.in-Some-index.blocks) (block_records c.add.new.self) (ordered-from records order) (shown r c.args.of_block c.in-Some.of_block c.in-Some.is shows) c.add.ensures
    (are_kept records c.args.index.now c.in-Some-index.blocks c.in-Some-index.is are)
