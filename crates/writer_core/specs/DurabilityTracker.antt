-- How much of a log is covered by the points of its groups.
use Rattle.std.specs.Prelude.{◌≡◌, ℕ, ◌+◌, ◌<◌, ◌≤◌, Bool, true, nat_le, if◌then◌else◌, List, length, take, slice_index, slice_set}
use Rattle.volume_model.specs.Common.{every, Redo, last_lsn, last_of_group, complete_of, consistency_point_below, last_of_group_below}
use Rattle.redo_record.specs.declared.shared_record.SharedRecord.{SharedRecord}
use Rattle.writer_core.specs.Logs.{log_of}
use Rattle.writer_core.specs.declared.durability.DurabilityTracker.{DurabilityTracker}

-- a record is covered by its group's point
abbrev pub is_covered : (ℕ → ℕ) → Redo → Bool
is_covered points r = nat_le r.lsn (points r.group)

-- the first records, as many as the tracker says, are covered. It has the LSN of the last of them and of their last
-- consistency point, and for each group the last LSN among them and the last one up to that point
pub record CoversPrefix (durability : DurabilityTracker) (points : ℕ → ℕ) (records : List SharedRecord) : Type 0 where
  pub within : durability.records ≤ length records
  pub all : every (is_covered points) (log_of (take durability.records records)) ≡ true
  pub complete : durability.complete ≡ last_lsn (log_of (take durability.records records))
  pub durable : durability.durable ≡ consistency_point_below durability.complete
      (log_of (take durability.records records))
  pub last_lsns : (group : ℕ) → group < 16 → slice_index durability.last_lsns group ≡ last_of_group group
      (log_of (take durability.records records))
  pub durable_lasts : (group : ℕ) → group < 16 → slice_index durability.durable_lasts group ≡ last_of_group_below group
      durability.durable (log_of (take durability.records records))

-- the tracker covers no record, whatever the log
abbrev pub CoversNone : DurabilityTracker → Type 0
CoversNone durability = (points : ℕ → ℕ) (records : List SharedRecord) → CoversPrefix durability points records

-- one more record is covered
pub record Covers (old new : DurabilityTracker) (r : Redo) : Type 0 where
  pub counted : new.records ≡ old.records + 1
  pub complete : new.complete ≡ r.lsn
  pub durable : new.durable ≡ (if r.point then r.lsn else old.durable)
  pub last_lsns : new.last_lsns ≡ slice_set old.last_lsns r.group r.lsn
  pub durable_lasts : new.durable_lasts ≡ (if r.point then new.last_lsns else old.durable_lasts)

-- all records from the first on are covered that can be: the tracker has the log's complete point, its durable point,
-- and for each group the last LSN up to that
pub record CoversLog (durability : DurabilityTracker) (points : ℕ → ℕ) (records : List SharedRecord) : Type 0 where
  pub front : CoversPrefix durability points records
  pub complete : durability.complete ≡ complete_of points (log_of records)
  pub durable : durability.durable ≡ consistency_point_below (complete_of points (log_of records)) (log_of records)
  pub durable_lasts : (group : ℕ) → group < 16 → slice_index durability.durable_lasts group ≡ last_of_group_below group
      durability.durable (log_of records)
