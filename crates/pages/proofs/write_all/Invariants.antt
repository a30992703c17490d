use Rattle.std.proofs.Common.{◌≡◌, drop, map}
use Rattle.volume_model.specs.Common.{page_from}
use Rattle.redo_record.specs.Common.{shared_redo}
use Rattle.pages.proofs.write_all.Given as goal

abbrev pub invariant-loop-packet : goal.invariant-loop-packet
invariant-loop-packet l =
    page_from l.page l.block l.point (map shared_redo (drop l.packet-index l.packets)) ≡ page_from l.fn.page l.block l.point (map shared_redo l.packets)
