-- The pieces kept of one series.
use Rattle.volume_model.specs.Pieces as model
use Rattle.hydration.specs.declared.pieces.Pieces.{Pieces}
use Rattle.hydration.specs.Kept.{all_kept}

-- the pieces of the model for kept ones
abbrev pub seen_pieces : Pieces → model.Pieces
seen_pieces pieces = record { series = pieces.series; of = pieces.of; kept = all_kept pieces.kept.items }
