use Rattle.std.proofs.Common.{◌≡◌, drop}
use Rattle.volume_model.specs.Common.{page_from, page_of}
use Rattle.redo_record.specs.Common.{joined, records_of, runs_in}
use Rattle.pages.proofs.Runs.{AreOfBlock}
use Rattle.pages.proofs.page_of_set.Given as goal

abbrev pub invariant-loop-run : goal.invariant-loop-run
invariant-loop-run l =
    (AreOfBlock l.block (joined (runs_in (drop l.run-index l.run-items))))
    × (page_from l.page l.block l.point (joined (runs_in (drop l.run-index l.run-items))) ≡ page_of (records_of l.records) l.block l.point)
