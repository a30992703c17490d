use Rattle.std.specs.Prelude.{List, map}
use Rattle.std.specs.Arc.{arc_value}
use Rattle.volume_model.specs.Common.{From}
use Rattle.wire.specs.Common.{contents_of}
use Rattle.hydration.specs.declared.copied.Copied.{Copied}

-- the report of the model for a copy
abbrev pub copy_of : Copied → From
copy_of copied = record { sender = copied.from; contents = contents_of (arc_value copied.contents) }

-- the copies, in the order in which they came
abbrev pub copies_in : List Copied → List From
copies_in copies = map copy_of copies
