use Rattle.std.proofs.Common.{◌≡◌, ◌-◌, ◌*◌, min, List, length, ◌∙◌, arith}
use Rattle.std.proofs.lemmas.Result.{IfOk-weaker}
use Rattle.volume_model.specs.Common.{Redo}
use Rattle.redo_record.specs.RecordSet.{records_of}
use Rattle.redo_record.proofs.Parts.{part-piece}
use Rattle.redo_record.proofs.record_set.RecordSet.piece.Goals as goal

pub returns : goal.returns
returns c =
    let ours : List Redo = records_of c.args.self.now in
    let from : c.min-from.result ≡ min (c.args.number * 256) (length ours) = omega arith in
    let count : c.min-len.result ≡ min (length ours - c.min-from.result) 256 = omega arith in
    IfOk-weaker c.part.result _ _ (λ set h. h ∙ part-piece ours c.args.number c.min-from.result c.min-len.result from count) c.part.ensures
