use Rattle.drivers.specs.Grammar.{changes_in}
use Rattle.drivers.specs.Parts.{parts_left}
use Rattle.drivers.proofs.Parsing.{changes_more}
use Rattle.drivers.proofs.changes.each_change.Goals as goal

pub loop-word-preserved : goal.loop-word-preserved
loop-word-preserved c =
    changes_more (changes_in (parts_left c.args.words)) (parts_left c.loop-word.words) (parts_left c.take_first.new.self) c.in-Some.word.now c.loop-word.changes.items c.push.new.self.items c.in_ok-change.field-0
    c.loop-word.invariant c.in-Some.ensures.part c.in_ok-change.ensures c.in_ok-push.ensures.items
