-- Which types may cross threads.
use denote.RattleType.{RattleType}
use denote.Param.Send.{IsSend, IsSync, recorded_send, recorded_sync, struct_send, struct_sync, sendable}
use denote.Struct.Declared.{shape}
use Rattle.std.proofs.Crossing.{crosses}
use Rattle.quorum_expr.proofs.expression.Expr.TheLaws.TheKnot as expr
use Rattle.refutation.proofs.Refutation.TheLaws.TheKnot as cert
use Rattle.redo_record.proofs.record.Record.TheSendSync as record_type
use Rattle.redo_record.proofs.shared_record.SharedRecord.TheSendSync as shared_record_type
use Rattle.lineage.proofs.lineage.Lineage.TheSendSync as lineage_type
use Rattle.segment_core.proofs.assembly.Assembly.TheSendSync as assembly
use Rattle.segment_core.proofs.segment_state.SegmentState.TheSendSync as held
use Rattle.segment_core.proofs.records.Records.TheSendSync as records
use Rattle.hydration.proofs.hydration.Hydration.TheSendSync as hydration_type
use Rattle.hydration.proofs.copied.Copied.TheSendSync as copied
use Rattle.writer_core.proofs.last_lsns.LastLsns.TheSendSync as last_lsns
use Rattle.writer_core.proofs.durability.DurabilityTracker.TheSendSync as durability
use Rattle.writer_core.proofs.group_state.GroupState.TheSendSync as group_state
use Rattle.recovery.proofs.found.Found.TheSendSync as found
use Rattle.segment_core.specs.contracts.segment.Segment as Segment
use Rattle.epochs.specs.contracts.authority.Authority as Authority
use Rattle.plan.specs.contracts.checked.CheckedPlan as CheckedPlan
use Rattle.writer_core.specs.contracts.group_states.GroupStates as GroupStates
use Rattle.writer_core.specs.contracts.writer.Writer as Writer
use Rattle.recovery.specs.contracts.recovery.Recovery as Recovery
use Rattle.world.specs.contracts.client.Client as Client
use denote.Ref.{NamedLft}
use Rattle.std.specs.declared.sync.ledger.Ledger as ledger
use Rattle.board.proofs.Board.TheSendSync as board
use Rattle.node_fleet.proofs.mailboxes.Mailboxes.TheSendSync as mailboxes
use Rattle.journal.specs.declared.row.Site as site
use Rattle.journal.proofs.cursor.ActorCursor.TheSendSync as cursor
use Rattle.journal.proofs.log.Log.TheSendSync as log
use Rattle.node_fleet.specs.contracts.authority.AuthorityActor as AuthorityActor
use Rattle.node_fleet.specs.contracts.client.ClientActor as ClientActor
use Rattle.node_fleet.specs.contracts.node.NodeActor as NodeActor
use Rattle.node_fleet.specs.contracts.fleet.Fleet as Fleet
use Rattle.node_fleet.specs.declared.site.FleetSite as fleet_site

ruleset parts = (sendable, crosses, record_type.the_send, record_type.the_field_send, record_type.the_sync, shared_record_type.the_send, shared_record_type.the_field_send, shared_record_type.the_sync, lineage_type.the_send, lineage_type.the_field_send, records.the_send, records.the_field_send, held.the_send, held.the_field_send, assembly.the_send, assembly.the_field_send, hydration_type.the_send, hydration_type.the_field_send, copied.the_send, copied.the_field_send, last_lsns.the_send, last_lsns.the_field_send, durability.the_send, durability.the_field_send, group_state.the_send, group_state.the_field_send, found.the_send, found.the_field_send)

pub plan_send : IsSend CheckedPlan.the_row
plan_send = search (sendable, crosses, expr.crosses, cert.crosses) depth 60 fits 20000

pub plan_sync : IsSync CheckedPlan.the_row
plan_sync = search (sendable, crosses, expr.crosses, cert.crosses) depth 60 fits 20000

pub authority_field : IsSend (Authority.the_field).row
authority_field = search (parts, plan_send, plan_sync) depth 30

pub segment_field : IsSend (Segment.the_field).row
segment_field = search (parts, plan_send, plan_sync) depth 30

pub standings_field : IsSend (GroupStates.the_field).row
standings_field = search (parts, plan_send, plan_sync) depth 30

pub writer_field : IsSend (Writer.the_field).row
writer_field = search (parts, plan_send, plan_sync, standings_field) depth 30

pub writer_send : IsSend Writer.the_row
writer_send = search (sendable, writer_field) depth 30

pub recovery_field : IsSend (Recovery.the_field).row
recovery_field = search (parts, plan_send, plan_sync, standings_field) depth 30

pub recovery_send : IsSend Recovery.the_row
recovery_send = search (sendable, recovery_field) depth 30

pub client_field : IsSend (Client.the_field).row
client_field = search (parts, plan_send, plan_sync, standings_field, writer_field, recovery_field, writer_send, recovery_send) depth 30

module _ (T : RattleType) (g : site.Ghosts T.Denot) (l : ledger.Ghosts T.Denot) where
  authority_actor : IsSend (AuthorityActor.the_row T g l)
  authority_actor = recorded_send (AuthorityActor.the_field T g l).row _ _ (AuthorityActor.the_type T g l).to_one (struct_send (shape (AuthorityActor.the_type T g l)) (cursor.the_field_send T g l, (authority_field, tt)))

  client_actor : IsSend (ClientActor.the_row T g l)
  client_actor = recorded_send (ClientActor.the_field T g l).row _ _ (ClientActor.the_type T g l).to_one (struct_send (shape (ClientActor.the_type T g l)) (cursor.the_field_send T g l, (client_field, tt)))

  node_actor : IsSend (NodeActor.the_row T g l)
  node_actor = recorded_send (NodeActor.the_field T g l).row _ _ (NodeActor.the_type T g l).to_one (struct_send (shape (NodeActor.the_type T g l)) (cursor.the_field_send T g l, (segment_field, (search sendable, (search sendable, tt)))))

  -- threads may share a fleet
  pub fleet_sync : (f : fleet_site.Ghosts T.Denot) (a : NamedLft) → IsSync (Fleet.the_row a T f g l)
  fleet_sync f a = recorded_sync (Fleet.the_field a T f g l).row _ _ (Fleet.the_type a T f g l).to_one (
      struct_sync (shape (Fleet.the_type a T f g l)) (
        search (sendable, crosses) depth 20,
        (
          search (sendable, crosses, plan_send, plan_sync) depth 20,
          (
            board.the_field_sync,
            (
              mailboxes.the_field_sync,
              (
                search (crosses, authority_actor) depth 20,
                (search (sendable, crosses, client_actor) depth 20, (search (sendable, crosses, node_actor) depth 20, (search (crosses, log.the_send a T g l) depth 20, (search sendable, tt)))),
              ),
            ),
          ),
        ),
      ))
