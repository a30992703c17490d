use Rattle.std.proofs.Common.{◌≡◌, List, Some, sym, ap, ◌∙◌, subst, rules}
use mathlib.Core.List.{IsPrefix}
use Rattle.volume_model.proofs.Fronts.{prefix_self}
use Rattle.volume_model.proofs.Worlds.{known}
use Rattle.journal.specs.declared.entry.Entry.{Entry}
use Rattle.journal.specs.Actors.{seen_who}
use Rattle.journal.specs.Entries.{entries_of}
use Rattle.journal.specs.Fronts.{front_log}
use Rattle.journal.specs.LastEntries.{last_in, or_zero}
use Rattle.journal.specs.Tokens.{shown}
use Rattle.journal.proofs.Entered.{entries_begin, length-entries}
use Rattle.journal.proofs.log.Log.compare.Goals as goal

pub returns-clause-agree : goal.returns-clause-agree
returns-clause-agree g c =
    let log = c.args.self.now in
    let cursor = c.args.cursor.now in
    let es = shown log.entries.items in
    let actor = seen_who cursor.who in
    let there : last_in log.lasts actor ≡ Some cursor.number = search rules in
    let old = front_log cursor.seen in
    let begin : IsPrefix old es = subst (λ (l : List Entry). IsPrefix old l) (sym log.same) c.compare.ensures.begins in
    (known g.L.Site.plan actor cursor.number (entries_of old) (entries_of es) (entries_of es) (sym (ap or_zero there) ∙ log.newest actor) (length-entries old ∙ cursor.long) (entries_begin old es begin) (prefix_self (entries_of es))).0

pub returns-clause-last : goal.returns-clause-last
returns-clause-last g c =
    let log = c.args.self.now in
    let cursor = c.args.cursor.now in
    let actor = seen_who cursor.who in
    let there : last_in log.lasts actor ≡ Some cursor.number = search rules in
    (sym (ap or_zero there) ∙ log.newest actor, search rules)

pub returns-clause-seen : goal.returns-clause-seen
returns-clause-seen g c =
    let log = c.args.self.now in
    let cursor = c.args.cursor.now in
    let es = shown log.entries.items in
    let actor = seen_who cursor.who in
    let there : last_in log.lasts actor ≡ Some cursor.number = search rules in
    let old = front_log cursor.seen in
    let begin : IsPrefix old es = subst (λ (l : List Entry). IsPrefix old l) (sym log.same) c.compare.ensures.begins in
    (known g.L.Site.plan actor cursor.number (entries_of old) (entries_of es) (entries_of es) (sym (ap or_zero there) ∙ log.newest actor) (length-entries old ∙ cursor.long) (entries_begin old es begin) (prefix_self (entries_of es))).1
