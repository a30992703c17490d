-- A thread's part may go to another thread.
use denote.RattleType.{RattleType}
use denote.Ref.{NamedLft}
use denote.Param.Send.{IsSend, struct_send, shr_send, sendable}
use denote.Struct.Declared.{shape}
use Rattle.std.specs.declared.sync.ledger.Ledger as ledger
use Rattle.journal.specs.declared.row.Site as site
use Rattle.node_fleet.specs.declared.site.FleetSite as fleet_site
use Rattle.node_fleet.proofs.pass.Pass.TheSendSync as pass
use Rattle.node_fleet.proofs.Crossing.{fleet_sync}
use Rattle.volume_tests.specs.contracts.fleets.threads.Hand as Hand
use Rattle.volume_tests.specs.contracts.fleets.threads.Scene as Scene
use Rattle.volume_tests.proofs.fleets.threads.Meeting.TheSendSync as meeting
use Rattle.volume_tests.proofs.fleets.threads.work_in.Goals as goal

module _ (a b : NamedLft) (T : RattleType) (f : fleet_site.Ghosts T.Denot) (g : site.Ghosts T.Denot) (l : ledger.Ghosts T.Denot) where
  scene_field : IsSend (Scene.the_field a b T f g l).row
  scene_field = struct_send (shape (Scene.the_type a b T f g l)) (shr_send _ _ _ (fleet_sync T g l f b), (shr_send _ _ _ meeting.the_sync, (search sendable depth 30, tt)))

  hand_field : IsSend (Hand.the_field a b T f g l).row
  hand_field = struct_send (shape (Hand.the_type a b T f g l)) (scene_field, (search (sendable, pass.the_field_send) depth 20, (search sendable depth 30, tt)))

pub spawn-requires-send-F : goal.spawn-requires-send-F
spawn-requires-send-F g c κs within = search (sendable, hand_field, c.type_bounds.sync-R) depth 12
