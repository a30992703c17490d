use Rattle.std.proofs.Common.{ℕ, ◌<◌, ◌≤◌, get_or}
use Rattle.redo_record.specs.Common.{shared_redo}
use Rattle.redo_record.specs.declared.shared_record.SharedRecord.{SharedRecord}
use Rattle.pages.proofs.greatest_of.Given as goal

abbrev pub invariant-loop-packet : goal.invariant-loop-packet
invariant-loop-packet l = (k : ℕ) (d : SharedRecord) → k < l.packet-index → (shared_redo (get_or l.packets k d)).lsn ≤ l.greatest
