use Rattle.wire.specs.Common.{message_of}
use Rattle.segment_core.specs.Segment.{segment_plan, segment_group, segment_member}
use Rattle.volume_c.specs.Turns.{turn_of}
use Rattle.volume_c.proofs.Turns.{took-one}
use Rattle.volume_c.proofs.frames.take_next.Goals as goal

pub returns-clause-took : goal.returns-clause-took
returns-clause-took c =
    let s = c.args.segment.now in
    took-one (segment_plan s) (segment_group s) (segment_member s) c.args.bytes.now c.in_ok-message.rest.now (message_of c.in_ok-message.message) (turn_of c.args.waiting.now.items s) (turn_of c.take_turn.new.waiting.items c.take_turn.new.segment) c.in_ok-message.ensures.canonical c.in_ok-take_turn.ensures.turn
