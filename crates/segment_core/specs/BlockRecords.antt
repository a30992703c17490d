-- The records of one block, as they are kept.
use Rattle.std.specs.Prelude.{◌≡◌, ◌<◌, ◌-◌, List, [], Option, Some, Vec, length, map, slice_get, vec_capacity, MatchOption}
use Rattle.std.specs.Borrow.{Bor}
use Rattle.std.specs.Global.{Global}
use Rattle.volume_model.specs.Common.{Redo}
use Rattle.redo_record.specs.Common.{ComesAfter, IsHeldIn, records_of, HasRoomAt, StandsAt, shared_redo}
use Rattle.redo_record.specs.declared.record_set.RecordSet.{RecordSet}
use Rattle.redo_record.specs.declared.run_place.RunPlace.{RunPlace}
use Rattle.redo_record.specs.declared.shared_record.SharedRecord.{SharedRecord}
use Rattle.segment_core.specs.declared.block_records.BlockRecords.{BlockRecords}
use Rattle.segment_core.specs.declared.block_records.BlockRecords.TheVariants.{AsList, AsSet}
use Rattle.segment_core.specs.declared.block_records.RecordPlace.{RecordPlace}
use Rattle.segment_core.specs.declared.block_records.RecordPlace.TheVariants.{Held, Last, InSet}

-- the records, in order
abbrev pub records_in : BlockRecords → List Redo
records_in (AsList list) = map shared_redo list.items
records_in (AsSet set) = records_of set.value

-- this is the last of the records, if there is one
abbrev pub IsLastOf : List Redo → Option (Bor SharedRecord) → Type 0
IsLastOf records last = MatchOption last (records ≡ [])
    (λ packet. Some (shared_redo packet.now) ≡ slice_get records (length records - 1))

-- The record comes after all of the list, at whose end there is room.
pub record HasRoomAtEnd (r : Redo) (list : Vec SharedRecord Global) : Type 0 where
  pub after : ComesAfter (map shared_redo list.items) r
  pub room : length list.items < vec_capacity list

-- The record isn't in the set, its place is this one, and there is room for it.
pub record HasRoomInside (place : RunPlace) (r : Redo) (set : RecordSet) : Type 0 where
  pub stands : StandsAt place set r
  pub room : HasRoomAt set place

-- there is room for the record at its place in the set, unless it is held
abbrev pub IsReadyIn : RecordPlace → Redo → RecordSet → Type 0
IsReadyIn Held r set = IsHeldIn (records_of set) r
IsReadyIn Last r set = ⊥
IsReadyIn (InSet place) r set = HasRoomInside place r set

-- there is room for the record at the end of the list
abbrev pub IsReadyAfter : RecordPlace → Redo → Vec SharedRecord Global → Type 0
IsReadyAfter Held r list = ⊥
IsReadyAfter Last r list = HasRoomAtEnd r list
IsReadyAfter (InSet place) r list = ⊥

-- there is room for the record at its place, unless it is held
abbrev pub IsReadyAt : RecordPlace → Redo → BlockRecords → Type 0
IsReadyAt place r (AsList list) = IsReadyAfter place r list
IsReadyAt place r (AsSet set) = IsReadyIn place r set.value
