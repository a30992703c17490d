use Rattle.plan_edit.proofs.Spans.{adds_all}
use Rattle.plan_edit.proofs.word_reading.read_members.Goals as goal

pub returns : goal.returns
returns c = adds_all c.args.text.now c.with_words.result (rw (← c.empty.ensures) c.with_words.ensures)
