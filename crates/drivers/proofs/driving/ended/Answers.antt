-- What a closed fleet leaves follows from its journal.
use Rattle.std.proofs.Common.{rules, ◌≡◌, ◌==◌, ◌&&◌, not, is_err, length, vec_len, refl, sym, ap, subst, ◌∙◌}
use Rattle.std.proofs.lemmas.List.{length-map}
use Rattle.std.specs.List.{list_any}
use Rattle.std.specs.Arc.{arc_value}
use Rattle.volume_model.specs.Common.{IsRun, events, opening, results}
use Rattle.plan.specs.Common.{checked_model}
use Rattle.world.specs.Events.{event_of, events_of}
use Rattle.world.specs.Outcomes.{KeepsPromises, IsOutcomeOfRun}
use Rattle.node_fleet.specs.Journals.{entries_in}
use Rattle.drivers.proofs.driving.ended.Goals as goal

pub returns-clause-driven : goal.returns-clause-driven
returns-clause-driven g c =
    let plan = checked_model (arc_value c.args.plan.now) in
    let entries = entries_in c.close-journal.result in
    let is_plan = sym c.requires.plan in
    let copied = c.in_ok-events.ensures.events in
    let is = subst (λ es. events_of es ≡ events entries) (sym c.as_slice.ensures.value) copied in
    let is_run = subst (λ es. IsOutcomeOfRun plan es c.in_ok-outcome.outcome) is c.in_ok-outcome.ensures.is_run in
    let long : vec_len c.in_ok-events.events ≡ length c.in_ok-events.events.items = search rules in
    let count = long ∙ sym (length-map c.in_ok-events.events.items event_of) ∙ ap length copied in
    record {
      entries = entries;
      runs = subst (λ p. IsRun p entries) is_plan c.close-journal.ensures.run;
      promises = subst (λ p. KeepsPromises p (events entries)) is_plan c.close-journal.ensures.promises;
      lines = refl;
      agrees = c.agrees-agrees.ensures ∙ ap (λ rs. not (list_any (λ event_result. is_err event_result) rs) && (vec_len c.in_ok-events.events == c.args.counts.made)) is_run.results_are ∙ ap (λ n. not (list_any (λ event_result. is_err event_result) (results plan (opening plan) (events entries))) && (n == c.args.counts.made)) count;
      outcome = is_run;
    }
