-- The changes of a transaction, as C has them.
use Rattle.std.specs.Prelude.{take}
use Rattle.volume_model.specs.ClientWriter as model
use Rattle.volume_c.specs.declared.changes.VolumeChange.{VolumeChange}

-- the change of the model for a struct
abbrev pub given_change : VolumeChange → model.Change
given_change c = record { group = c.group; block = c.block; offset = c.offset; bytes = take c.length c.bytes }
