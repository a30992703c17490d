-- The changes of a transaction, as the model has them.
use Rattle.std.specs.Prelude.{ℕ, List, map, take}
use Rattle.volume_model.specs.ClientWriter as model
use Rattle.redo_record.specs.Common.{payload_bytes}
use Rattle.writer_core.specs.declared.inline_bytes.InlineBytes.{InlineBytes}
use Rattle.writer_core.specs.declared.change.Form.{Form}
use Rattle.writer_core.specs.declared.change.Form.TheVariants.{Few, Many}
use Rattle.writer_core.specs.declared.change.Change.{Change}

-- the bytes that are stored inline
abbrev pub inline_bytes : InlineBytes → List ℕ
inline_bytes bytes = take bytes.length bytes.place

-- the change in this form
abbrev pub change_in : Form → model.Change
change_in (Few group offset block bytes) = record {
  group = group;
  block = block;
  offset = offset;
  bytes = inline_bytes
      bytes;
}
change_in (Many group offset block bytes) = record {
  group = group;
  block = block;
  offset = offset;
  bytes =
      payload_bytes bytes.value;
}

-- the change of the model for a program's change
abbrev pub change_of : Change → model.Change
change_of change = change_in change.form

-- the changes of a transaction
abbrev pub changes_of : List Change → List model.Change
changes_of changes = map change_of changes
