use Rattle.std.proofs.Common.{◌≡◌, ◌+◌, suc, [], ◌∷◌, ◌++◌, take, sym, ap, ◌∙◌, arith}
use Rattle.volume_model.specs.Journal as model
use Rattle.volume_model.specs.Common.{events}
use Rattle.volume_model.proofs.Worlds.{take_more}
use Rattle.world.specs.Events.{event_of, events_of}
use Rattle.journal.specs.Entries.{entry_of, entries_of}
use Rattle.journal.specs.Tokens.{shown}
use Rattle.journal.proofs.Entered.{entry_there}
use Rattle.journal.proofs.Maps.{map-append, map-there}
use Rattle.journal.proofs.log.Log.events.Goals as goal

pub loop-cell-preserved : goal.loop-cell-preserved
loop-cell-preserved g c =
    let log = c.args.self.now in
    let es = shown log.entries.items in
    let cell = c.loop-cell.cell in
    let e = c.entry.result.now in
    let all = events (entries_of es) in
    let at = map-there (λ (x : model.Entry). x.event) (entries_of es) cell (entry_of e) (entry_there es cell e c.entry.ensures) in
    let next : take (cell + 1) all ≡ take (suc cell) all = ap (λ n. take n all) (let n : cell + 1 ≡ suc cell = omega arith in n) in
    ap events_of c.in_ok-push.ensures.items
    ∙ map-append event_of c.loop-cell.made.items (c.in_ok-clone.field-0 ∷ [])
    ∙ (λ i. c.loop-cell.invariant i ++ c.in_ok-clone.ensures.cases i ∷ [])
    ∙ sym (take_more all cell (event_of e.event) at)
    ∙ sym next
