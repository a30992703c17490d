use Rattle.std.proofs.Common.{◌≡◌, ◌+◌, ◌<◌, [], ◌∷◌, ◌++◌, length, All, get_or, refl, sym, ap, ◌∙◌, arith, rules}
use Rattle.volume_model.proofs.ListFacts.{get_within}
use Rattle.wire.specs.Common.{message_of, messages_of, listed}
use Rattle.world.specs.Events.{event_of}
use Rattle.journal.specs.declared.entry.Entry.{Entry}
use Rattle.journal.specs.declared.pass.PassStep.{PassStep}
use Rattle.journal.specs.Entries.{entry_of, entries_of}
use Rattle.journal.specs.Passes.{steps_of, made_of}
use Rattle.journal.specs.PassSteps.{Made, made}
use Rattle.journal.specs.Fronts.{front_log}
use Rattle.journal.specs.Tokens.{shown}
use Rattle.journal.proofs.Entered.{entries_push, entries_world, length-entries}
use Rattle.journal.proofs.Each.{all_map}
use Rattle.journal.proofs.Maps.{map-length}
use Rattle.journal.proofs.Tokens.{length-shown}
use Rattle.journal.proofs.log.Log.enter.Goals as goal

pub returns-clause-step : goal.returns-clause-step
returns-clause-step g c =
    let log = c.args.self.now in
    let pass = c.args.pass.now in
    let es = shown log.entries.items in
    let long : length es ≡ c.len-cell.result = length-shown log.entries.items ∙ search rules in
    let entry : Entry = record { event = c.args.event; made = c.args.made; first = log.messages; cell = c.len-cell.result; durable = c.args.durable } in
    let count : length (entry_of entry).made ≡ c.len-count.result =
    map-length message_of (listed entry.made) ∙ sym c.len-count.ensures in
    let below : All (λ (s : Made). s.at + 1 < c.len-cell.result + 1) (steps_of pass) = all_map (λ (h : PassStep g.row.L.Denot). made_of h) (λ (s : Made). s.at + 1 < c.len-cell.result + 1) pass.steps.items
    (λ k d lt. let h = get_or pass.steps.items k d in let s = pass.stand k d lt in let w = get_within (entries_of (front_log pass.seen)) (entry_of h.entry.now) h.entry.now.cell s.stands in let same = ap length c.requires.settled in omega (arith, w, same, length-entries (front_log pass.seen), long)) in
    (made (length es) (entry_of entry) c.args.durable, c.append-seen.ensures.steps, omega (arith, long), refl, count, sym c.total.ensures, refl, below)

pub returns-clause-entry : goal.returns-clause-entry
returns-clause-entry g c =
    let log = c.args.self.now in
    let es = shown log.entries.items in
    let entry : Entry = record { event = c.args.event; made = c.args.made; first = log.messages; cell = c.len-cell.result; durable = c.args.durable } in
    entries_push es (shown c.append-seen.new.self.entries.items) entry c.append-seen.ensures.entries
    ∙ ap (λ n. entries_of es ++ record { event = event_of c.args.event; made = messages_of (listed c.args.made); first = n } ∷ []) log.messages_are

pub returns-clause-world : goal.returns-clause-world
returns-clause-world g c =
    let log = c.args.self.now in
    let es = shown log.entries.items in
    let entry : Entry = record { event = c.args.event; made = c.args.made; first = log.messages; cell = c.len-cell.result; durable = c.args.durable } in
    entries_world g.L.Site.plan es (shown c.append-seen.new.self.entries.items) entry c.append-seen.ensures.entries
