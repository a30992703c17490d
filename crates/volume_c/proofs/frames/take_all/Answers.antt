use Rattle.segment_core.specs.declared.segment.Segment.{Segment}
use Rattle.segment_core.specs.Segment.{segment_plan, segment_group, segment_member}
use Rattle.volume_model.specs.Common.{NodeStep}
use Rattle.volume_c.specs.Turns.{turn_of}
use Rattle.volume_c.proofs.Turns.{took-then}
use Rattle.volume_c.proofs.OwnTurns.{own-took, same-trans}
use Rattle.volume_c.proofs.frames.take_all.Goals as goal

pub loop-alloc-preserved : goal.loop-alloc-preserved
loop-alloc-preserved c =
    let s : Segment = c.args.segment.now in
    let t : Segment = c.loop-alloc.segment in
    let u : Segment = c.take_next.new.segment in
    let first : NodeStep = turn_of c.args.waiting.now.items s in
    let before : NodeStep = turn_of c.loop-alloc.waiting.items t in
    let after : NodeStep = turn_of c.take_next.new.waiting.items u in
    record {
      took = took-then (segment_plan s) (segment_group s) (segment_member s) c.args.frame.now c.loop-alloc.rest.now c.in-Ok.after.now first before after c.loop-alloc.invariant.took
          (own-took s t c.loop-alloc.invariant.actor c.loop-alloc.rest.now c.in-Ok.after.now before after c.in-Ok.ensures.took);
      actor = same-trans s t u c.loop-alloc.invariant.actor c.in-Ok.ensures.actor;
    }
