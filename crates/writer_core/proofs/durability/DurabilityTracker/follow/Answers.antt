use Rattle.std.proofs.Common.{◌≤◌, ◌∙◌, sym, arith}
use Rattle.volume_model.specs.Common.{group_point_of}
use Rattle.writer_core.specs.Groups.{groups_in}
use Rattle.writer_core.specs.Log.{log_left, packets_in}
use Rattle.writer_core.proofs.Bounds.{packets-few}
use Rattle.writer_core.proofs.Covering.{covers-more, covers-all, covers-up-to}
use Rattle.writer_core.proofs.Joined.{left-none, left-read}
use Rattle.writer_core.proofs.durability.DurabilityTracker.follow.Goals as goal
use Rattle.std.proofs.lemmas.Grind.{common_steps}
use Rattle.std.proofs.Common.{rules}

pub loop-packet-preserved : goal.loop-packet-preserved
loop-packet-preserved c =
    let log = c.args.log.now in
    let p = c.in-Some.packet.now in
    let r = c.record-record.result.now in
    let read = left-read (packets_in log) c.loop-packet.self.records p (log_left c.next.new.self) (sym c.loop-packet.invariant.rest ∙ c.in-Some.ensures) in
    let points = group_point_of (groups_in c.args.group_states.now) in
    let reached : r.lsn ≤ points r.group = omega (arith, c.if-point-record.false, c.point.ensures) in
    search (rules, c.loop-packet.invariant.covers, c.record-record.ensures, c.cover.ensures, c.cover.ensures.counted, covers-more)

pub returns-then-point-record : goal.returns-then-point-record
returns-then-point-record c = search (rules, c.loop-packet.invariant.rest, c.in-Some.ensures, c.if-point-record.true, c.point.ensures, c.loop-packet.invariant.covers, c.record-record.ensures, left-read, covers-up-to)

pub returns : goal.returns
returns c = grind (arith, common_steps, c.loop-packet.invariant.covers, c.loop-packet.invariant.rest, c.in_default.ensures, covers-all, left-none)

pub cover-requires : goal.cover-requires
cover-requires c = grind (arith, common_steps, c.loop-packet.invariant.rest, c.in-Some.ensures, left-read, packets-few)
