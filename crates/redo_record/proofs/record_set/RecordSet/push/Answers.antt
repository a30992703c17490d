use Rattle.std.proofs.Common.{List}
use Rattle.volume_model.specs.Common.{Redo}
use Rattle.redo_record.specs.RecordSet.{records_of}
use Rattle.redo_record.specs.SharedRecord.{shared_redo}
use Rattle.redo_record.proofs.Finding.{place-last}
use Rattle.redo_record.proofs.Places.{with_record-after}
use Rattle.redo_record.proofs.record_set.RecordSet.push.Goals as goal
use Rattle.std.proofs.lemmas.Grind.{common_steps}
use Rattle.std.proofs.Common.{arith}

pub insert_at-requires-clause-place : goal.insert_at-requires-clause-place
insert_at-requires-clause-place c =
    let ours : List Redo = records_of c.args.self.now in
    let r : Redo = shared_redo c.args.packet in
    grind (arith, common_steps, c.in_ok-place.ensures.stands, c.end-end.ensures.within, c.end-end.ensures.end, c.requires, (place-last ours r c.args.self.now.in_order c.requires))

pub returns-clause-ok : goal.returns-clause-ok
returns-clause-ok c = grind (arith, common_steps, c.insert_at.ensures, c.in_ok-place.ensures.same, c.requires, with_record-after)
