use Rattle.std.proofs.Common.{◌≡◌, drop}
use Rattle.volume_model.specs.Common.{have_joined}
use Rattle.writer_core.specs.Changes.{changes_of}
use Rattle.writer_core.specs.Groups.{groups_in}
use Rattle.writer_core.proofs.transaction.have_joined.Given as goal

abbrev pub invariant-loop-change : goal.invariant-loop-change
invariant-loop-change l = have_joined (groups_in l.group_states) (changes_of l.changes) ≡ have_joined (groups_in l.group_states) (changes_of (drop l.change-index l.changes))
