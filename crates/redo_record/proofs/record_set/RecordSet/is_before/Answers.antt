use Rattle.std.proofs.Common.{sym, ◌∙◌}
use Rattle.redo_record.specs.SharedRecord.{shared_redo}
use Rattle.redo_record.specs.RecordSet.{records_of}
use Rattle.redo_record.proofs.Places.{before_from}
use Rattle.redo_record.proofs.Rows.{row-in_order, row-none-left, row-none-right}
use Rattle.redo_record.proofs.record_set.RecordSet.is_before.Goals as goal

pub returns-in_default : goal.returns-in_default
returns-in_default c h = row-none-left (records_of c.args.self.now) (records_of c.args.other.now) c.in_default.ensures c.args.other.now.in_order

pub returns-in_default-first : goal.returns-in_default-first
returns-in_default-first c h = row-none-right (records_of c.args.self.now) (records_of c.args.other.now) c.in_default-first.ensures c.args.self.now.in_order

pub returns : goal.returns
returns c h =
    row-in_order (records_of c.args.self.now) (records_of c.args.other.now) (shared_redo c.in-Some.last.now) (shared_redo c.in-Some-first.first.now) c.args.self.now.in_order c.args.other.now.in_order c.in-Some.ensures c.in-Some-first.ensures
    (before_from (shared_redo c.in-Some.last.now) (shared_redo c.in-Some-first.first.now) (sym c.is_before.ensures ∙ h))
