use Rattle.std.proofs.Common.{List, length, All, map, ap, ◌∙◌, subst}
use Rattle.volume_model.specs.Common.{IsRefused}
use Rattle.journal.specs.declared.entry.Entry.{Entry}
use Rattle.journal.specs.declared.pass.PassStep.{PassStep}
use Rattle.journal.specs.Entries.{entries_of, note_of}
use Rattle.journal.specs.Fronts.{front_log}
use Rattle.journal.specs.Passes.{made_of}
use Rattle.journal.specs.PassSteps.{Stands}
use Rattle.journal.specs.Tokens.{shown}
use Rattle.journal.proofs.Each.{all_map}
use Rattle.journal.proofs.log.Log.take_back.Goals as goal

pub returns-clause-stands : goal.returns-clause-stands
returns-clause-stands g c =
    let pass = c.catch_up.new.pass in
    let plan = g.L.Site.plan in
    let all = all_map (λ (h : PassStep g.row.L.Denot). made_of h) (Stands plan (entries_of (front_log pass.seen))) pass.steps.items pass.stand in
    subst (λ (l : List Entry). All (Stands plan (entries_of l)) (map (λ (h : PassStep g.row.L.Denot). made_of h) c.args.pass.steps.items)) (c.catch_up.ensures.seen ∙ ap (λ ts. shown ts.items) c.catch_up.ensures.log.0)
    (subst (λ hs. All (Stands plan (entries_of (front_log pass.seen))) (map (λ (h : PassStep g.row.L.Denot). made_of h) hs.items)) c.catch_up.ensures.pass.0 all)

pub returns-clause-refused : goal.returns-clause-refused
returns-clause-refused g c =
    let pass = c.catch_up.new.pass in
    let plan = g.L.Site.plan in
    let all = all_map note_of (IsRefused plan g.L.Site.slots (length g.L.Site.cells) (entries_of (front_log pass.seen))) pass.notes.items pass.refused in
    subst (λ (l : List Entry). All (IsRefused plan g.L.Site.slots (length g.L.Site.cells) (entries_of l)) (map note_of c.args.pass.notes.items)) (c.catch_up.ensures.seen ∙ ap (λ ts. shown ts.items) c.catch_up.ensures.log.0)
    (subst (λ ns. All (IsRefused plan g.L.Site.slots (length g.L.Site.cells) (entries_of (front_log pass.seen))) (map note_of ns.items)) c.catch_up.ensures.pass.1 all)
