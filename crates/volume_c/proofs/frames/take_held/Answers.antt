use Rattle.std.proofs.Common.{refl, ◌∙◌}
use Rattle.volume_c.proofs.HeldTook.{held-took}
use Rattle.volume_c.proofs.frames.take_held.Goals as goal

pub returns-in-Segment : goal.returns-in-Segment
returns-in-Segment c =
    held-took c.in-Segment.segment c.take_all-status.new.segment c.args.held.now.actor c.args.held.now.outbox c.fill.new.self c.new-waiting.result.items c.take_all-status.new.waiting.items
    c.args.frame.now c.take_all-status.result.0.now c.take_all-status.result.1 _
    c.take_all-status.ensures.actor c.in-Segment.is (c.is_empty.ensures c.if-not-is_empty.false) (c.fill.ensures ∙ c.of.ensures) c.new-waiting.ensures.items
    c.take_all-status.ensures.took c.take_all-status.ensures.all c.take_all-status.ensures.refused refl
