-- Sets of records.
use Rattle.std.specs.Prelude.{◌+◌, ◌<◌, ◌≤◌, ◌^◌, List, length, vec_capacity, slice_index_or, IsSome}
use Rattle.std.specs.List.{flat_map}
use Rattle.volume_model.specs.Common.{Redo}
use Rattle.redo_record.specs.declared.record_set.RecordSet.{RecordSet}
use Rattle.redo_record.specs.declared.run.Run.{Run}
use Rattle.redo_record.specs.declared.run_place.RunPlace.{RunPlace}
use Rattle.redo_record.specs.declared.shared_record.SharedRecord.{SharedRecord}
use Rattle.redo_record.specs.Joined.{joined}
use Rattle.redo_record.specs.Run.{run_packets, runs_in, HasRoom}
use Rattle.redo_record.specs.RunPlaces.{IsPlaceOf}

-- the packets of a set, in order
abbrev pub packets_of : RecordSet → List SharedRecord
packets_of set = flat_map run_packets set.runs.items

-- the runs of a set, each as its records
abbrev pub runs_of : RecordSet → List (List Redo)
runs_of set = runs_in set.runs.items

-- the records of a set, in order
abbrev pub records_of : RecordSet → List Redo
records_of set = joined (runs_of set)

-- the record isn't held, and its place is this one
abbrev pub StandsAt : RunPlace → RecordSet → Redo → Type 0
StandsAt place set r = IsPlaceOf (runs_of set) r place

-- There is memory for one more run.
pub record HasSpare (set : RecordSet) : Type 0 where
  pub spare : IsSome set.spare
  pub listed : length set.runs.items < vec_capacity set.runs

-- There is room for one more record at this place.
pub record HasRoomAt (set : RecordSet) (place : RunPlace) : Type 0 where
  pub counted : length (records_of set) + 1 < 2 ^ 64
  pub inside : (d : Run) → place.run < length set.runs.items → HasRoom (slice_index_or set.runs.items place.run d)
  pub beyond : length set.runs.items ≤ place.run → HasSpare set
