use Rattle.std.specs.Prelude.{◌≡◌, ℕ, ◌<◌, ◌≤◌, ◌^◌, true, ◌&&◌, nat_le}
use Rattle.volume_model.specs.Lineage as model
use Rattle.volume_model.specs.Common.{is_live, last_epoch}
use Rattle.lineage.specs.declared.live.Walk.{Walk}
use Rattle.lineage.specs.Entries.{entries_from, entries_left, is_lineage}

-- The older entries and the least cut of the newer ones decide as the whole lineage does which records are live, unless
-- a record is of a newer entry's volume epoch.
pub record Decides (lineage : model.Lineage) (limit : ℕ) (older : model.Lineage) : Type 0 where
  pub growing : is_lineage older ≡ true
  pub same : (volume lsn : ℕ) → volume ≤ last_epoch older → lsn < 2 ^ 64
      → is_live lineage volume lsn ≡ (nat_le lsn limit && is_live older volume lsn)

-- the walk is one over this lineage's entries, whose passed ones decide no record of the epochs that are left
abbrev pub Walks : model.Lineage → Walk → Type 0
Walks lineage walk = Decides lineage walk.limit (entries_from walk.entry (entries_left walk.older))
