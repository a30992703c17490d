-- What is there was read, and is no more than was asked for.
use Rattle.std.proofs.Common.{◌≤◌, ◌<◌, ◌-◌, [], vec_len}
use Rattle.commands.specs.Failures.{GrowsBy}
use Rattle.commands.proofs.files.read_front.Given as goal

abbrev pub invariant-loop-chunk : goal.invariant-loop-chunk
invariant-loop-chunk g l =
    (0 < vec_len l.chunk) × (vec_len l.all ≤ l.most) × GrowsBy (g.R.Read.remaining l.fn.reader) (g.R.Read.remaining l.reader) [] l.all.items

abbrev pub decreases-loop-chunk : goal.decreases-loop-chunk
decreases-loop-chunk g l = l.most - vec_len l.all
