use Rattle.std.proofs.Common.{List, sym, subst}
use mathlib.Core.List.{IsPrefix}
use Rattle.volume_model.proofs.Fronts.{prefix_get}
use Rattle.journal.specs.declared.entry.Entry.{Entry}
use Rattle.journal.specs.Fronts.{front_log}
use Rattle.journal.specs.Tokens.{shown}
use Rattle.journal.proofs.Entered.{letter_numbered}
use Rattle.journal.proofs.log.Log.has.Goals as goal

pub returns-clause-is : goal.returns-clause-is
returns-clause-is g c =
    let log = c.args.self.now in
    let message_ref = c.args.message_ref.now in
    let es = shown log.entries.items in
    let old = front_log message_ref.seen in
    let begin : IsPrefix old es = subst (λ (l : List Entry). IsPrefix old l) (sym log.same) c.compare.ensures.begins in
    letter_numbered g.L.Site.plan es message_ref.cell message_ref.index message_ref.number message_ref.entry.now log.run (prefix_get old es message_ref.cell message_ref.entry.now begin message_ref.is) message_ref.inside message_ref.number_is
