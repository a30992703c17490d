-- Which records are live, stated with a lineage's entries.
use Rattle.std.specs.Prelude.{◌≡◌, ◌↔◌, ℕ, ◌<◌, ◌≤◌, true, [], ◌∷◌}
use Rattle.volume_model.specs.Lists.{IsIn}
use Rattle.volume_model.specs.Lineage.{Entry, Lineage, is_live}

-- each entry, newest first, is of a later volume epoch than all older ones
abbrev pub EpochsGrow : Lineage → Type 0
EpochsGrow [] = Unit {0}
EpochsGrow (e ∷ older) = ((f : Entry) → IsIn f older → f.volume < e.volume) × EpochsGrow older

-- the volume epoch has an entry, the number is above that entry's start, and the cut of each entry of a later volume
-- epoch is at least the number
pub record Lives (lineage : Lineage) (volume lsn : ℕ) : Type 0 where
  pub entry : Entry
  pub there : IsIn entry lineage
  pub own : entry.volume ≡ volume
  pub above_start : entry.start < lsn
  pub not_cut_off : (later : Entry) → IsIn later lineage → volume < later.volume → lsn ≤ later.cut

-- in a lineage whose epochs grow, is_live says exactly that a record lives
abbrev pub RecordsLive : Type 0
RecordsLive = (lineage : Lineage) → EpochsGrow lineage → (volume lsn : ℕ) → (is_live lineage volume lsn ≡ true) ↔ Lives
    lineage volume lsn
