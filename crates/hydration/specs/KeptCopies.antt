-- Copies that are kept in pieces.
use Rattle.std.specs.Prelude.{List, map}
use Rattle.volume_model.specs.Lineage as model
use Rattle.volume_model.specs.Common.{Copy}
use Rattle.hydration.specs.declared.kept_copy.KeptCopy.{KeptCopy}
use Rattle.hydration.specs.declared.kept.Kept.{Kept}
use Rattle.hydration.specs.Kept.{all_kept}
use Rattle.hydration.specs.Pieces.{seen_pieces}

-- the copy of the model for a kept one
abbrev pub kept_copy_of : KeptCopy → Copy
kept_copy_of kept_copy = record { sender = kept_copy.from; pieces = seen_pieces kept_copy.pieces }

-- the copies, in the order in which their members' first pieces came
abbrev pub all_kept_copies : List KeptCopy → List Copy
all_kept_copies copies = map kept_copy_of copies

-- the contents of kept pieces
abbrev pub contents_kept : List Kept → List model.Contents
contents_kept kept = map (λ piece. piece.contents) (all_kept kept)
