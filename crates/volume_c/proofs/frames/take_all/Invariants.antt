use Rattle.std.proofs.Common.{length}
use Rattle.segment_core.specs.Segment.{IsSameActor}
use Rattle.volume_c.specs.Turns.{turn_of, TookOwn}
use Rattle.volume_c.proofs.frames.take_all.Given as goal

abbrev pub invariant-loop-alloc : goal.invariant-loop-alloc
invariant-loop-alloc l = record {
  took : TookOwn l.fn.segment l.frame l.rest (turn_of l.fn.waiting.items l.fn.segment) (turn_of l.waiting.items l.segment);
  actor : IsSameActor l.fn.segment l.segment;
}

abbrev pub decreases-loop-alloc : goal.decreases-loop-alloc
decreases-loop-alloc l = length l.rest
