use Rattle.plan_edit.proofs.Spans.{adds_no_more, adds_one}
use Rattle.plan_edit.proofs.word_reading.with_range.Goals as goal
use Rattle.plan_edit.proofs.word_reading.with_range.Goals.{then-number-last+else-contains, else-number-last}

pub loop-number-preserved : goal.loop-number-preserved
loop-number-preserved c =
    let first = c.in_ok-first.first in
    let last = c.in_ok-first.last in
    elim c.if-number-last.branch [
      | then-number-last+else-contains w ↦ rw w.all-is (rw w.with-all.ensures (adds_one first last c.loop-number.number c.args.members c.loop-number.all c.loop-number.auto.number w.if-number-last.true c.loop-number.invariant))
      | else-number-last w ↦ rw w.all-is (adds_no_more first last c.loop-number.number c.args.members c.loop-number.all w.if-number-last.false c.loop-number.invariant)
    ]
