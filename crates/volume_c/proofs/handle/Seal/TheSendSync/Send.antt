-- What a handle holds may go to another thread.
use mir.Raw.{raw}
use base.Shift.{Keyless}
use denote.Memory.{lone}
use denote.RawPtr.{Ptr}
use denote.Struct.Struct.{exits_of}
use denote.Struct.Declared.{shape as declared}
use denote.Struct.Owning.{shape, fields, to}
use denote.Param.Send.{IsSend, IsSync, AllSend, owning_send, recorded_send, struct_send, sendable}
use Rattle.std.proofs.Crossing as heap
use Rattle.std.specs.Prelude.{Option, Some, None}
use Rattle.std.specs.Global.{Global}
use Rattle.std_alloc.proofs.SendSync.{quiet, lies}
use Rattle.std_heap.proofs.Global.TheSendSync as handle
use Rattle.quorum_expr.proofs.expression.Expr.TheLaws.TheKnot as expr
use Rattle.refutation.proofs.Refutation.TheLaws.TheKnot as cert
use Rattle.redo_record.proofs.record.Record.TheSendSync as record_type
use Rattle.redo_record.proofs.shared_record.SharedRecord.TheSendSync as shared_record_type
use Rattle.lineage.proofs.lineage.Lineage.TheSendSync as lineage_type
use Rattle.segment_core.proofs.assembly.Assembly.TheSendSync as assembly
use Rattle.segment_core.proofs.segment_state.SegmentState.TheSendSync as held
use Rattle.segment_core.proofs.records.Records.TheSendSync as records
use Rattle.hydration.proofs.hydration.Hydration.TheSendSync as hydration_type
use Rattle.hydration.proofs.copied.Copied.TheSendSync as copied
use Rattle.writer_core.proofs.last_lsns.LastLsns.TheSendSync as last_lsns
use Rattle.writer_core.proofs.durability.DurabilityTracker.TheSendSync as durability
use Rattle.writer_core.proofs.group_state.GroupState.TheSendSync as group_state
use Rattle.recovery.proofs.found.Found.TheSendSync as found
use Rattle.segment_core.specs.contracts.segment.Segment as Segment
use Rattle.epochs.specs.contracts.authority.Authority as Authority
use Rattle.plan.specs.contracts.checked.CheckedPlan as CheckedPlan
use Rattle.writer_core.specs.contracts.group_states.GroupStates as GroupStates
use Rattle.writer_core.specs.contracts.writer.Writer as Writer
use Rattle.recovery.specs.contracts.recovery.Recovery as Recovery
use Rattle.world.specs.contracts.client.Client as Client
use Rattle.wire.proofs.contents.Contents.TheSendSync as contents_type
use Rattle.wire.proofs.messages.Messages.TheSendSync as messages_type
use Rattle.volume_c.specs.Sealed.{sealed_owns}
use Rattle.volume_c.specs.contracts.actor.Actor as Actor
use Rattle.volume_c.specs.contracts.actor.Held as Held
use Rattle.volume_c.specs.contracts.outbox.Outbox as Outbox
use Rattle.volume_c.specs.contracts.snapshot_bytes.SnapshotBytes as SnapshotBytes
use Rattle.volume_c.specs.contracts.handle.Seal.{the_row, the_type}

ruleset parts = (sendable, heap.crosses, record_type.the_send, record_type.the_field_send, record_type.the_sync, shared_record_type.the_send, shared_record_type.the_field_send, shared_record_type.the_sync, lineage_type.the_send, lineage_type.the_field_send, records.the_send, records.the_field_send, held.the_send, held.the_field_send, assembly.the_send, assembly.the_field_send, hydration_type.the_send, hydration_type.the_field_send, copied.the_send, copied.the_field_send, last_lsns.the_send, last_lsns.the_field_send, durability.the_send, durability.the_field_send, group_state.the_send, group_state.the_field_send, found.the_send, found.the_field_send)

plan_send : IsSend CheckedPlan.the_row
plan_send = search (sendable, heap.crosses, expr.crosses, cert.crosses) depth 60 fits 20000

plan_sync : IsSync CheckedPlan.the_row
plan_sync = search (sendable, heap.crosses, expr.crosses, cert.crosses) depth 60 fits 20000

authority_field : IsSend (Authority.the_field).row
authority_field = search (parts, plan_send, plan_sync) depth 30

authority_send : IsSend Authority.the_row
authority_send = search (sendable, authority_field) depth 30

segment_field : IsSend (Segment.the_field).row
segment_field = search (parts, plan_send, plan_sync) depth 30

segment_send : IsSend Segment.the_row
segment_send = search (sendable, segment_field) depth 30

standings_field : IsSend (GroupStates.the_field).row
standings_field = search (parts, plan_send, plan_sync) depth 30

writer_field : IsSend (Writer.the_field).row
writer_field = search (parts, plan_send, plan_sync, standings_field) depth 30

writer_send : IsSend Writer.the_row
writer_send = search (sendable, writer_field) depth 30

recovery_field : IsSend (Recovery.the_field).row
recovery_field = search (parts, plan_send, plan_sync, standings_field) depth 30

recovery_send : IsSend Recovery.the_row
recovery_send = search (sendable, recovery_field) depth 30

client_field : IsSend (Client.the_field).row
client_field = search (parts, plan_send, plan_sync, standings_field, writer_field, recovery_field, writer_send, recovery_send) depth 30

client_send : IsSend Client.the_row
client_send = search (sendable, client_field) depth 30

outbox_field : IsSend (Outbox.the_field).row
outbox_field = struct_send (declared Outbox.the_type) (messages_type.the_field_send, (search sendable, (search (sendable, heap.crosses), tt)))

snapshot_field : IsSend (SnapshotBytes.the_field).row
snapshot_field = search (sendable, heap.crosses, contents_type.the_send, contents_type.the_sync) depth 30

snapshot_send : IsSend SnapshotBytes.the_row
snapshot_send = search (sendable, snapshot_field) depth 30

actor_field : IsSend (Actor.the_field).row
actor_field = search (sendable, heap.crosses, segment_send, segment_field, client_send, client_field, authority_send, authority_field, snapshot_send, snapshot_field, plan_send, plan_sync) depth 30

held_send : IsSend Held.the_row
held_send = recorded_send (Held.the_field).row _ _ (Held.the_type).to_one (struct_send (declared Held.the_type) (actor_field, (outbox_field, tt)))

keyless : (alloc : Global) (p : Ptr) (held : Option Held.the_row.Denot) → Keyless (sealed_owns alloc p held)
keyless alloc p None = tt
keyless alloc p (Some x) = (lies Held.the_row held_send p x, heap.frees.frees alloc (raw (lone Held.the_row.mir)) p)

pub send : IsSend the_row
send =
    let all : AllSend (fields the_type) = (search sendable, (handle.the_field_send, tt)) in
    owning_send the_type all (λ d. keyless d.alloc d.at d.held)
    (λ k. quiet (to the_type) (exits_of k (fields the_type)) ((struct_send (shape the_type) all).leaving k))
