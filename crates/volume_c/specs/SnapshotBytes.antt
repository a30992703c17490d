-- The bytes of a snapshot that weren't handed out.
use Rattle.std.specs.Prelude.{ℕ, List, ◌++◌, drop}
use Rattle.std.specs.Arc.{arc_value}
use Rattle.wire.specs.Common.{contents_of}
use Rattle.message_bytes.specs.Spelling.{records_spelled}
use Rattle.volume_c.specs.declared.snapshot_bytes.SnapshotBytes.{SnapshotBytes}

-- the rest of what stands before the records, and the records that follow
abbrev pub bytes_left : SnapshotBytes → List ℕ
bytes_left s = drop s.taken s.head.items ++ records_spelled (drop s.next (contents_of (arc_value s.contents)).records)
