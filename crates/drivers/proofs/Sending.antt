-- A thread's part of a run may go to another thread.
use denote.RattleType.{RattleType}
use denote.Ref.{NamedLft}
use denote.Param.Send.{IsSend, struct_send, shr_send, sendable}
use denote.Struct.Declared.{shape}
use Rattle.std.proofs.Crossing.{crosses}
use Rattle.std.specs.declared.sync.ledger.Ledger as ledger
use Rattle.journal.specs.declared.row.Site as site
use Rattle.node_fleet.specs.declared.site.FleetSite as fleet_site
use Rattle.node_fleet.proofs.pass.Pass.TheSendSync as pass
use Rattle.world.proofs.event.Order.TheSendSync as order
use Rattle.drivers.specs.contracts.worker.WorkerContext as WorkerContext
use Rattle.drivers.specs.contracts.run.Run as Run
use Rattle.drivers.proofs.completion_table.CompletionTable.TheSendSync as completions
use Rattle.node_fleet.proofs.Crossing.{fleet_sync}

module _ (a b : NamedLft) (T : RattleType) (f : fleet_site.Ghosts T.Denot) (g : site.Ghosts T.Denot) (l : ledger.Ghosts T.Denot) where
  run_field : IsSend (Run.the_field a b T f g l).row
  run_field = struct_send (shape (Run.the_type a b T f g l)) (
    shr_send _ _ _ (fleet_sync T g l f b),
    (
      search (sendable, crosses, order.the_sync) depth 20,
      (search (sendable, crosses) depth 30, (shr_send _ _ _ completions.the_sync, tt)),
    ),
  )

  pub worker_field : IsSend (WorkerContext.the_field a b T f g l).row
  worker_field = struct_send (shape (WorkerContext.the_type a b T f g l)) (run_field, (search sendable depth 30, (search (sendable, pass.the_field_send) depth 20, tt)))
