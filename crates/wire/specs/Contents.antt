use Rattle.std.specs.Prelude.{ℕ}
use Rattle.volume_model.specs.Lineage as model
use Rattle.volume_model.specs.Common.{Piece}
use Rattle.lineage.specs.Lineage.{lineage_of}
use Rattle.redo_record.specs.Common.{records_of}
use Rattle.wire.specs.declared.contents.Contents.{Contents}

-- the contents of the model for contents
abbrev pub contents_of : Contents → model.Contents
contents_of contents = record { lineage = lineage_of contents.lineage; records = records_of contents.records }

-- piece `piece` of `of`
abbrev pub piece_in : ℕ → ℕ → Piece
piece_in piece of = record { number = piece; of = of }
