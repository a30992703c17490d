use Rattle.volume_c.proofs.Saves.{save-does, save-makes}
use Rattle.volume_c.proofs.snapshot_calls.save_held.Goals as goal

pub returns-in-Segment-clause-does : goal.returns-in-Segment-clause-does
returns-in-Segment-clause-does c =
    save-does c.in-Segment.segment c.save.new.segment c.args.held.now.actor c.save.result c.args.out.now.seal.held c.save.new.out.seal.held c.in-Segment.is c.save.ensures.own c.save.ensures.unchanged
    c.args.held.now.outbox c.save.ensures.actor (c.is_empty.ensures c.if-not-is_empty.false) c.save.ensures.node

pub returns-in-Segment-clause-makes : goal.returns-in-Segment-clause-makes
returns-in-Segment-clause-makes c =
    save-makes c.in-Segment.segment c.save.new.segment c.args.held.now.actor c.save.result c.args.out.now.seal.held c.save.new.out.seal.held c.in-Segment.is c.save.ensures.own c.save.ensures.unchanged
    c.requires c.save.ensures.bytes c.save.ensures.nothing
