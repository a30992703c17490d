use Rattle.std.proofs.Common.{sym, subst, ◌∙◌}
use Rattle.redo_record.specs.Common.{shared_redo}
use Rattle.segment_core.specs.BlockRecords.{IsLastOf}
use Rattle.segment_core.proofs.AppliedPages.{after-last, after-none}
use Rattle.segment_core.proofs.block_records.is_after.Goals as goal

pub returns-in-Some : goal.returns-in-Some
returns-in-Some c records order last h = after-last records (shared_redo c.in-Some.last.now) (shared_redo c.args.packet.now) order (subst (IsLastOf records) c.in-Some.is last) (sym c.is_before.ensures ∙ h)

pub returns-in-None : goal.returns-in-None
returns-in-None c records order last h = after-none records (shared_redo c.args.packet.now) (subst (IsLastOf records) c.in-None.is last)
