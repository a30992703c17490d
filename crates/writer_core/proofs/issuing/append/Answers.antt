use Rattle.std.proofs.Common.{arith, ◌≡◌, ◌∙◌, ◌++◌, ◌∷◌, [], nat_eq, ◌+◌, length}
use Rattle.volume_model.specs.Common.{place_of, label_of, record_of}
use Rattle.volume_model.specs.Message as model
use Rattle.wire.specs.Common.{listed, message_of}
use Rattle.redo_record.specs.Common.{shared_redo}
use Rattle.writer_core.specs.Logs.{log_of}
use Rattle.writer_core.specs.Log.{packets_in}
use Rattle.writer_core.specs.Changes.{change_of}
use Rattle.writer_core.specs.Groups.{groups_in}
use Rattle.writer_core.proofs.OneMore.{logged_on, written_on, room_on, good_on, front_on, messages_on}
use Rattle.writer_core.proofs.issuing.append.Goals as goal
use Rattle.std.proofs.lemmas.Grind.{common_steps}

pub next_packet-requires-clause-group : goal.next_packet-requires-clause-group
next_packet-requires-clause-group c = grind (arith, common_steps)

pub next_packet-requires-clause-place : goal.next_packet-requires-clause-place
next_packet-requires-clause-place c = grind (arith, common_steps)

pub loop-i-preserved : goal.loop-i-preserved
loop-i-preserved c =
    let volume = c.args.span.volume in
    let start = c.args.span.start in
    let places = place_of (groups_in c.args.group_states.now) in
    let changes = c.args.changes.now in
    let i = c.loop-i.i in
    let change = c.index-changes-i.result in
    let records = packets_in c.loop-i.log in
    let p = c.in_ok-packet.packet in
    let within = c.loop-i-test.true in
    let is = c.index-changes-i.is in
    let made : shared_redo p ≡ record_of volume start (log_of records) (change_of change) (nat_eq (i + 1) (length changes)) = c.in_ok-packet.ensures.made in
    let message = c.in_ok-message.field-0 in
    let logs : packets_in c.push_reserved.new.self ≡ records ++ p ∷ [] = c.push_reserved.ensures.packets in
    let messages : listed c.add.new.messages ≡ listed c.loop-i.messages ++ message ∷ [] = c.in_ok-add.ensures in
    let said : message_of message ≡ model.Message.Write (change_of change).group (label_of volume places (change_of change).group) (shared_redo p) = grind (arith, common_steps) in
    record {
      lasts = rw logs c.in_ok-packet.ensures.entered;
      spare = omega (arith, c.push_reserved.ensures.room, c.loop-i.invariant.spare, within);
      room = rw logs (room_on volume start places changes i change within is records p made c.loop-i.invariant.room);
      good = (good_on volume start places changes i change within is records p made (length (groups_in c.args.group_states.now)) c.loop-i.invariant.good).1;
      logged = rw logs (logged_on volume start places changes i change within is records p made ∙ c.loop-i.invariant.logged);
      written = rw (logs, messages) (messages_on (listed c.loop-i.messages) message _ _ (written_on volume start places changes i change within is records p made _ said) ∙ c.loop-i.invariant.written);
      front = rw logs (front_on records p _ c.loop-i.invariant.front);
      found = c.push_reserved.ensures.found ∙ c.loop-i.invariant.found;
    }
