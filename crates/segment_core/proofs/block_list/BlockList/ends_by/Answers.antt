use Rattle.std.proofs.Common.{◌≤◌, arith, leb-true}
use Rattle.redo_record.specs.Common.{shared_redo}
use Rattle.segment_core.specs.BlockList.{redos_in}
use Rattle.segment_core.proofs.AppliedPages.{last-greatest}
use Rattle.segment_core.proofs.block_list.BlockList.ends_by.Goals as goal

pub returns-in-Some : goal.returns-in-Some
returns-in-Some c h =
    let low : c.lsn.result ≤ c.args.point = leb-true c.lsn.result c.args.point h in
    last-greatest (redos_in c.args.self.now) (shared_redo c.in-Some.last.now) c.args.point c.args.self.now.in_order c.in-Some.ensures (omega arith)
