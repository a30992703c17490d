use Rattle.std.proofs.Common.{◌<◌, List, take, sym, subst}
use Rattle.volume_model.specs.Common.{Redo, last_lsn}
use Rattle.redo_record.specs.declared.«record».Record.{Record}
use Rattle.redo_record.specs.Common.{redo_of}
use Rattle.recovery.specs.CutReader.{IsCutOf, log_of_records}
use Rattle.recovery.proofs.Cuts.{below-next, records-above, records-more}
use Rattle.recovery.proofs.cut_reader.cut_of.Goals as goal

pub read-requires : goal.read-requires
read-requires c =
    let records : List Record = c.args.records.now in
    let log : List Redo = log_of_records (take c.loop-record.record-index records) in
    let r : Record = c.record-item.result in
    let above : last_lsn log < r.lsn = records-above records c.loop-record.record-index r c.loop-record-test.true c.record-item.is c.requires in
    below-next c.loop-record.reader (redo_of r) log r.prev_volume_before c.loop-record.invariant above

pub loop-record-preserved : goal.loop-record-preserved
loop-record-preserved c =
    let records : List Record = c.args.records.now in
    let log : List Redo = log_of_records (take c.loop-record.record-index records) in
    let r : Record = c.record-item.result in
    let above : last_lsn log < r.lsn = records-above records c.loop-record.record-index r c.loop-record-test.true c.record-item.is c.requires in
    subst (IsCutOf c.read.new.self) (sym (records-more records c.loop-record.record-index r c.loop-record-test.true c.record-item.is)) (c.in_ok-read.ensures log c.loop-record.invariant above)
