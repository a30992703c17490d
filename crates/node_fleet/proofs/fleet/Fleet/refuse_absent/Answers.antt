use Rattle.world.specs.Events.{event_of}
use Rattle.journal.specs.Passes.{world_of}
use Rattle.node_fleet.proofs.Missing.{unnamed_refuses}
use Rattle.node_fleet.proofs.fleet.Fleet.refuse_absent.Goals as goal

pub refuse_missing-requires : goal.refuse_missing-requires
refuse_missing-requires g c = record { missing = unnamed_refuses g.L.Site.plan (world_of c.deref_mut.result.now) (event_of c.args.event) c.requires.of }
