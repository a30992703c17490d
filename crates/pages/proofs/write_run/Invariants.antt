use Rattle.std.proofs.Common.{◌≡◌, length, map, All}
use Rattle.volume_model.specs.Common.{page_from}
use Rattle.redo_record.specs.Common.{shared_redo}
use Rattle.pages.proofs.write_run.Given as goal

abbrev pub invariant-loop-rest : goal.invariant-loop-rest
invariant-loop-rest l =
    (All (λ packet. (shared_redo packet).block ≡ l.block) l.rest)
    × (page_from l.page l.block l.point (map shared_redo l.rest) ≡ page_from l.fn.page l.block l.point (map shared_redo l.packets))

abbrev pub decreases-loop-rest : goal.decreases-loop-rest
decreases-loop-rest l = length l.rest
