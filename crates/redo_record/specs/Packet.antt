-- Records as canonical bytes.
use Rattle.volume_model.specs.Common.{Redo}
use Rattle.redo_record.specs.declared.packet.Packet.{Packet}
use Rattle.redo_record.specs.Head.{redo_in}
use Rattle.redo_record.specs.RecordBuffer.{buffer_bytes}

-- the record that a packet's bytes encode
unfoldable pub packet_redo : Packet → Redo
packet_redo packet = redo_in (buffer_bytes packet.text)
