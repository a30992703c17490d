use Rattle.std.proofs.Common.{◌≡◌, ◌∙◌, true, false, refl, sym}
use Rattle.volume_model.specs.Common.{Redo}
use Rattle.redo_record.specs.Common.{redo_of}
use Rattle.recovery.specs.declared.cut_reader.CutReader.{CutReader}
use Rattle.recovery.specs.Chains.{leads}
use Rattle.recovery.proofs.Cuts.{leads-zero, leads-grounded, leads-none, cut-of_grounded, cut-of_same}
use Rattle.recovery.proofs.cut_reader.CutReader.read.Goals as goal
use Rattle.recovery.proofs.cut_reader.CutReader.read.Goals.{then-record-eq0-via-then-record-eq0, then-record-eq0-via-else-record-eq0+then-contains}

pub returns-then-record : goal.returns-then-record
returns-then-record c = λ log is above.
    let old : CutReader = c.args.self.now in
    let r : Redo = redo_of c.args.«record».now in
    let grounded : leads log r.prev_volume ≡ true = elim c.then-record-eq0.branch [
      | then-record-eq0-via-then-record-eq0 w ↦ leads-zero old log is r.prev_volume w.if-record-eq0.true
      | then-record-eq0-via-else-record-eq0+then-contains w ↦ leads-grounded old log is r.prev_volume (sym w.contains.ensures ∙ w.if-contains.true)
    ] in
    cut-of_grounded old r log c.args.«record».now.prev_volume_before is above _ grounded c.in_ok-push.ensures true c.if-record.true refl

pub returns-else-record : goal.returns-else-record
returns-else-record c = λ log is above.
    let old : CutReader = c.args.self.now in
    let r : Redo = redo_of c.args.«record».now in
    let grounded : leads log r.prev_volume ≡ true = elim c.then-record-eq0.branch [
      | then-record-eq0-via-then-record-eq0 w ↦ leads-zero old log is r.prev_volume w.if-record-eq0.true
      | then-record-eq0-via-else-record-eq0+then-contains w ↦ leads-grounded old log is r.prev_volume (sym w.contains.ensures ∙ w.if-contains.true)
    ] in
    cut-of_grounded old r log c.args.«record».now.prev_volume_before is above _ grounded c.in_ok-push.ensures false c.if-record.false refl

pub returns-else-contains : goal.returns-else-contains
returns-else-contains c = λ log is above.
    let old : CutReader = c.args.self.now in
    let r : Redo = redo_of c.args.«record».now in
    let none : leads log r.prev_volume ≡ false = leads-none old log is r.prev_volume c.if-record-eq0.false (sym c.contains.ensures ∙ c.if-contains.false) in
    cut-of_same old r log c.args.«record».now.prev_volume_before is above _ none (λ n. refl) refl
