use Rattle.std.proofs.Common.{◌≡◌, drop}
use Rattle.volume_model.specs.Common.{every, is_change}
use Rattle.writer_core.specs.Changes.{changes_of}
use Rattle.writer_core.proofs.transaction.is_transaction.Given as goal

abbrev pub invariant-loop-change : goal.invariant-loop-change
invariant-loop-change l = every (is_change l.groups) (changes_of l.changes) ≡ every (is_change l.groups) (changes_of (drop l.change-index l.changes))
