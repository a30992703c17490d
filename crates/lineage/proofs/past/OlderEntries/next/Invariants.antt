use Rattle.std.proofs.Common.{◌≡◌, length}
use Rattle.lineage.specs.Entries.{entries_left}
use Rattle.lineage.proofs.past.OlderEntries.next.Given as goal

abbrev pub invariant-loop-chunk : goal.invariant-loop-chunk
invariant-loop-chunk l = entries_left l.self ≡ entries_left l.initial.self

abbrev pub decreases-loop-chunk : goal.decreases-loop-chunk
decreases-loop-chunk l = length l.self.chunks.now
