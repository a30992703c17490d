use Rattle.std.proofs.Common.{length}
use Rattle.lineage.specs.Entries.{entries_from, entries_left}
use Rattle.lineage.specs.Lineage.{lineage_of}
use Rattle.lineage.specs.Walk.{Walks}
use Rattle.lineage.proofs.live.is_live_by.Given as goal

abbrev pub invariant-loop-walk : goal.invariant-loop-walk
invariant-loop-walk l = Walks (lineage_of l.lineage) l.walk

abbrev pub decreases-loop-walk : goal.decreases-loop-walk
decreases-loop-walk l = length (entries_from l.walk.entry (entries_left l.walk.older))
