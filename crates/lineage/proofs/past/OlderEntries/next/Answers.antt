use Rattle.std.proofs.Common.{eqb-true}
use Rattle.lineage.proofs.Chunks.{entries-last}
use Rattle.lineage.proofs.past.OlderEntries.next.Goals as goal
use Rattle.std.proofs.Common.{rules}

pub loop-chunk-preserved : goal.loop-chunk-preserved
loop-chunk-preserved c = search (rules, c.is_empty.ensures, c.loop-chunk-test.true, c.chunk-item.is, c.deref.ensures, c.as_slice-self.ensures.value, c.loop-chunk.invariant, entries-last, eqb-true)
