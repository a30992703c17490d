use Rattle.std.specs.Prelude.{ℕ, List, map}
use Rattle.volume_model.specs.Common.{last_epoch}
use Rattle.lineage.specs.declared.lineage.Lineage.{Lineage}
use Rattle.lineage.specs.Lineage.{lineage_of}

-- the last volume epoch of each lineage
abbrev pub last_epochs : List Lineage → List ℕ
last_epochs lineages = map (λ lineage. last_epoch (lineage_of lineage)) lineages
