-- A record that a writer lends, as a message.
use Rattle.volume_model.specs.Message as model
use Rattle.redo_record.specs.Common.{shared_redo}
use Rattle.wire.specs.declared.carried.Carried.{Carried}
use Rattle.wire.specs.Common.{label_of}

-- the Write of the record
abbrev pub carried_write : Carried → model.Message
carried_write carried = model.Message.Write carried.group (label_of carried.label) (shared_redo carried.packet.now)
