use Rattle.std.proofs.Common.{◌≡◌, length}
use Rattle.volume_model.specs.Common.{is_live}
use Rattle.lineage.specs.Entries.{entries_from, entries_left}
use Rattle.lineage.specs.Lineage.{lineage_of}
use Rattle.lineage.proofs.lineage.Lineage.is_live.Given as goal

abbrev pub invariant-loop-walk : goal.invariant-loop-walk
invariant-loop-walk l = is_live (entries_from l.walk.entry (entries_left l.walk.older)) l.volume_epoch l.lsn ≡ is_live (lineage_of l.self) l.volume_epoch l.lsn

abbrev pub decreases-loop-walk : goal.decreases-loop-walk
decreases-loop-walk l = length (entries_from l.walk.entry (entries_left l.walk.older))
