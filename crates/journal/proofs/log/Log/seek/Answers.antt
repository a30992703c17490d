use Rattle.std.proofs.Common.{◌≡◌, ◌+◌, ◌-◌, ◌<◌, ◌≤◌, List, None, All, length, map, get_or, sym, ap, ◌∙◌, subst, arith, inl, inr, slice_get}
use Rattle.volume_model.specs.Common.{numbered, world_at}
use Rattle.volume_model.proofs.ListFacts.{numbered_none}
use Rattle.wire.specs.Common.{listed}
use Rattle.journal.specs.declared.entry.Entry.{Entry}
use Rattle.journal.specs.declared.pass.PassStep.{PassStep}
use Rattle.journal.specs.Entries.{entry_of, entries_of}
use Rattle.journal.specs.Passes.{made_of, world_of}
use Rattle.journal.specs.PassSteps.{made, IsElse, Stands}
use Rattle.journal.specs.Tokens.{shown}
use Rattle.journal.proofs.Each.{all_map}
use Rattle.journal.proofs.Entered.{letter_numbered, made_within}
use Rattle.journal.proofs.Steps.{none_made}
use Rattle.journal.proofs.log.Log.seek.Given.{Over}
use Rattle.journal.proofs.log.Log.seek.Goals as goal
use Rattle.journal.proofs.log.Log.seek.Goals.{After-entry-entry, After-stay}
use Rattle.journal.proofs.log.Log.seek.Goals.{then-number-eq0-via-then-number-eq0, then-number-eq0-via-else-number-eq0+then-number-self}

-- no step has made the message
none : (g : Over) (c : After-stay g) → numbered (world_of c.catch_up.new.self).messages c.args.number ≡ None
none g c =
    let log = c.catch_up.new.self in
    elim c.then-number-eq0.branch [
      | then-number-eq0-via-then-number-eq0 w ↦ numbered_none (world_of log).messages c.args.number (inl w.if-number-eq0.true)
      | then-number-eq0-via-else-number-eq0+then-number-self w ↦ numbered_none (world_of log).messages c.args.number (inr (omega (arith, w.if-number-self.true, log.messages_are)))
    ]

pub returns-then-number-eq0-clause-none : goal.returns-then-number-eq0-clause-none
returns-then-number-eq0-clause-none g c =
    ap (λ ts. numbered (world_at g.L.Site.plan (entries_of (shown ts.items))).messages c.args.number) (sym c.catch_up.ensures.log.0)
    ∙ none g (goal.at.returns-then-number-eq0-clause-none g c).After-stay

pub returns-then-number-eq0-clause-own : goal.returns-then-number-eq0-clause-own
returns-then-number-eq0-clause-own g c =
    let log = c.catch_up.new.self in
    let plan = g.L.Site.plan in
    let es = shown log.entries.items in
    let number = c.args.number in
    let pass = c.catch_up.new.pass in
    subst (λ hs. All (IsElse number) (map (λ (h : PassStep g.row.L.Denot). made_of h) hs.items)) c.catch_up.ensures.pass.0
    (all_map (λ (h : PassStep g.row.L.Denot). made_of h) (IsElse number) pass.steps.items
    (λ k d lt. let h = get_or pass.steps.items k d in
    none_made plan (entries_of es) number (made h.entry.now.cell (entry_of h.entry.now) h.entry.now.durable) log.run (subst (λ (l : List Entry). Stands plan (entries_of l) (made h.entry.now.cell (entry_of h.entry.now) h.entry.now.durable)) c.catch_up.ensures.seen (pass.stand k d lt))
    (none g (goal.at.returns-then-number-eq0-clause-own g c).After-stay)))

-- the entry has the message
there : (g : Over) (c : After-entry-entry g) → let e = c.entry-entry.result.now in (e.first < c.args.number) × (c.args.number ≤ e.first + length (listed e.made))
there g c =
    let log = c.catch_up.new.self in
    let m = c.maker-cell.ensures in
    made_within g.L.Site.plan (shown log.entries.items) c.maker-cell.result c.args.number c.entry-entry.result.now log.run c.entry-entry.ensures m.1 m.2

pub overflow_sub-result-2 : goal.overflow_sub-result-2
overflow_sub-result-2 g c = let made = there g (goal.at.overflow_sub-result-2 g c).After-entry-entry in omega (arith, made.0)

pub invariant_of-result : goal.invariant_of-result
invariant_of-result g c =
    let log = c.catch_up.new.self in
    let made = there g (goal.at.invariant_of-result g c).After-entry-entry in
    record {
      history = c.front-seen.ensures.front.1 ∙ log.history.history;
      is = ap (λ (l : List Entry). slice_get l c.maker-cell.result) (c.front-seen.ensures.front.0 ∙ sym log.same) ∙ c.entry-entry.ensures;
      inside = omega (arith, made);
      number_is = omega (arith, made);
    }

pub returns-clause-is : goal.returns-clause-is
returns-clause-is g c =
    let log = c.catch_up.new.self in
    let plan = g.L.Site.plan in
    let e = c.entry-entry.result.now in
    let made = there g (goal.at.returns-clause-is g c).After-entry-entry in
    ap (λ ts. numbered (world_at plan (entries_of (shown ts.items))).messages c.args.number) (sym c.catch_up.ensures.log.0)
    ∙ letter_numbered plan (shown log.entries.items) c.maker-cell.result (c.args.number - 1 - e.first) c.args.number e log.run c.entry-entry.ensures (omega (arith, made)) (omega (arith, made))
