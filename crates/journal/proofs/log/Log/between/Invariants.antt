use Rattle.std.proofs.Common.{◌-◌, ◌<◌, ◌≤◌, vec_len}
use Rattle.volume_model.specs.Common.{before}
use Rattle.journal.specs.Passes.{journal_of}
use Rattle.journal.proofs.log.Log.between.Given as goal

abbrev pub invariant-loop-low : goal.invariant-loop-low
invariant-loop-low g l = record {
  within : (l.low < l.high) × (l.high ≤ vec_len l.self.entries);
  back : 0 < l.back;
  low : before g.L.Site.plan (journal_of l.self) l.low < l.number;
  high : l.number ≤ before g.L.Site.plan (journal_of l.self) l.high;
}

abbrev pub decreases-loop-low : goal.decreases-loop-low
decreases-loop-low g l = l.high - l.low
