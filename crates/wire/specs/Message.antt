use Rattle.std.specs.Prelude.{List, map}
use Rattle.std.specs.Arc.{arc_value}
use Rattle.volume_model.specs.Message as model
use Rattle.redo_record.specs.Common.{shared_redo}
use Rattle.wire.specs.declared.label.Label.{Label}
use Rattle.wire.specs.declared.label.Place.{Place}
use Rattle.wire.specs.declared.message.Message.{Message}
use Rattle.wire.specs.declared.message.Message.TheVariants.{View, StepTo, Fence, Report, Install, Write, Gossip, Ack, CopyAsk, CopyReport, PageAsk, Page}
use Rattle.wire.specs.Contents.{contents_of, piece_in}

-- the label of the model for a label
abbrev pub label_of : Label → model.Label
label_of label = record { volume = label.volume; member = label.member }

-- the place of the model for a place
abbrev pub place_of : Place → model.Place
place_of place = record { configuration = place.configuration; epoch = place.epoch }

-- the message of the model for a message
abbrev pub message_of : Message → model.Message
message_of (View m) = model.Message.View m.volume (map place_of m.places.value.items)
message_of (StepTo m) = model.Message.StepTo m.group (place_of m.place)
message_of (Fence m) = model.Message.Fence m.group (label_of m.label)
message_of (Report m) = model.Message.Report m.group (label_of m.label) m.from (contents_of (arc_value m.contents))
message_of (Install m) = model.Message.Install m.group (label_of m.label) (piece_in m.piece m.of)
    (contents_of m.contents.value)
message_of (Write m) = model.Message.Write m.group (label_of m.label) (shared_redo m.packet)
message_of (Gossip m) = model.Message.Gossip m.group (label_of m.label) (shared_redo m.packet)
message_of (Ack m) = model.Message.Ack m.group (label_of m.label) m.from m.scl
message_of (CopyAsk m) = model.Message.CopyAsk m.group m.epoch
message_of (CopyReport m) = model.Message.CopyReport m.group m.epoch m.from m.part.value.series (piece_in m.piece m.of)
    (contents_of m.part.value.contents)
message_of (PageAsk m) = model.Message.PageAsk m.group (label_of m.label) m.block m.point
message_of (Page m) = model.Message.Page m.group (label_of m.label) m.from m.image.value.block m.image.value.point
    m.image.value.bytes

-- the messages of the model for messages, in order
abbrev pub messages_of : List Message → List model.Message
messages_of = map message_of
