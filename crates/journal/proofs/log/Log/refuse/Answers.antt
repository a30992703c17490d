use Rattle.std.proofs.Common.{◌≡◌, List, length, All, sym, ◌∙◌, subst, rules}
use Rattle.volume_model.specs.Common.{IsRefused}
use Rattle.world.specs.Events.{event_of}
use Rattle.journal.specs.declared.entry.Entry.{Entry}
use Rattle.journal.specs.declared.pass.PassStep.{PassStep}
use Rattle.journal.specs.Entries.{entry_of, entries_of}
use Rattle.journal.specs.PassSteps.{made, Stands}
use Rattle.journal.specs.Tokens.{shown}
use Rattle.journal.proofs.Entered.{length-entries}
use Rattle.journal.proofs.Noting.{at_most_all, noted_now}
use Rattle.journal.proofs.Tokens.{length-shown}
use Rattle.journal.proofs.log.Log.refuse.Goals as goal

pub note-requires-clause-refused : goal.note-requires-clause-refused
note-requires-clause-refused g c =
    let log = c.args.self.now in
    let plan = g.L.Site.plan in
    let es = shown log.entries.items in
    let event = event_of c.args.event in
    let long : c.len.result ≡ length (entries_of es) = c.len.ensures ∙ search rules ∙ sym (length-shown log.entries.items) ∙ sym (length-entries es) in
    subst (λ (l : List Entry). IsRefused plan g.L.Site.slots (length g.L.Site.cells) (entries_of l) (record { event = event; fault = c.args.fault; number = c.len.result })) (sym c.requires.settled)
    (noted_now plan g.L.Site.slots (length g.L.Site.cells) c.len.result (entries_of es) event c.args.fault c.requires.noted long c.requires.exact)

pub returns-clause-note : goal.returns-clause-note
returns-clause-note g c =
    let log = c.args.self.now in
    let pass = c.args.pass.now in
    let plan = g.L.Site.plan in
    let es = shown log.entries.items in
    let long : c.len.result ≡ length (entries_of es) = c.len.ensures ∙ search rules ∙ sym (length-shown log.entries.items) ∙ sym (length-entries es) in
    let stand = subst (λ (l : List Entry). All (λ (h : PassStep g.row.L.Denot). Stands plan (entries_of l) (made h.entry.now.cell (entry_of h.entry.now) h.entry.now.durable)) pass.steps.items) c.requires.settled pass.stand in
    (c.len.result, c.note.ensures.note, at_most_all plan (entries_of es) pass.steps.items c.len.result stand long)
