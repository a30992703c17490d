use Rattle.std.specs.Prelude.{ℕ, List, take}
use Rattle.redo_record.specs.declared.record_buffer.RecordBuffer.{RecordBuffer}

-- the bytes that were written
abbrev pub buffer_bytes : RecordBuffer → List ℕ
buffer_bytes text = take text.length text.place
