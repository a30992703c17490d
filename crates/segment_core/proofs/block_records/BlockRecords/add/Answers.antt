use Rattle.std.proofs.Common.{◌∙◌, ◌∷◌, [], map, sym, ap, subst}
use Rattle.std.proofs.lemmas.List.{map-append}
use Rattle.volume_model.specs.Common.{Redo, with_record}
use Rattle.redo_record.specs.Common.{shared_redo}
use Rattle.redo_record.proofs.Places.{with_record-after}
use Rattle.segment_core.specs.BlockRecords.{records_in, HasRoomAtEnd, IsReadyAt, IsReadyAfter}
use Rattle.segment_core.specs.declared.block_records.BlockRecords.{BlockRecords}
use Rattle.segment_core.specs.declared.block_records.RecordPlace.{RecordPlace}
use Rattle.segment_core.proofs.block_records.BlockRecords.add.Goals as goal

pub returns-in-Last : goal.returns-in-Last
returns-in-Last c =
    let r : Redo = shared_redo c.args.packet in
    let ready : HasRoomAtEnd r c.in-AsList.list = subst (λ (place : RecordPlace). IsReadyAfter place r c.in-AsList.list) c.in-Last.is (subst (λ (records : BlockRecords). IsReadyAt c.args.place r records) c.in-AsList.is c.requires) in
    ap (map shared_redo) c.push_reserved.ensures.items
    ∙ map-append shared_redo c.in-AsList.list.items (c.args.packet ∷ [])
    ∙ sym (with_record-after r (map shared_redo c.in-AsList.list.items) ready.after)
    ∙ ap (with_record r) (sym (ap records_in c.in-AsList.is))
