-- One event more of a run.
use Rattle.std.proofs.Common.{◌≡◌, ◌≢◌, ℕ, Bool, ◌+◌, List, [], ◌∷◌, ◌++◌, Result, Ok, Err, length, refl, sym, ap, ap₂, ◌∙◌, append_assoc, arith, subst}
use Rattle.volume_model.specs.declared.fault.Fault.{Fault}
use Rattle.volume_model.specs.declared.fault.Fault.TheVariants.{NoMemory}
use Rattle.volume_model.specs.Common.{AcknowledgementsLast, StaysSo, FindsLast, Plan, IsCertified, World, Event, Step, step, after, after_step, opening, event_result, run, results}
use Rattle.world.specs.declared.event.Order.{Order}
use Rattle.world.specs.Events.{total_made, ordered, events_from}
use Rattle.world.specs.Actors.{moved, moved_of, Steps}
use Rattle.world.specs.Outcomes.{KeepsAcknowledgements, KeepsFinds}
use Rattle.world.proofs.Numbers.{grows, total_made-push}
use Rattle.std.proofs.lemmas.Grind.{common_steps}

-- the result where memory didn't run out
moved_result : (defined : Result Step Fault) (old new : World) (count : ℕ) → moved_of defined ≡ Ok (moved count new) → (event_result defined ≡ Ok count) × (after_step old defined ≡ new)
moved_result (Err fault) old new count e = absurd cc
moved_result (Ok step) old new count e = grind (arith, common_steps)

refused_result : (defined : Result Step Fault) (old new : World) (fault : Fault) → moved_of defined ≡ Err fault → new ≡ old → (event_result defined ≡ Err fault) × (after_step old defined ≡ new)
refused_result (Err other) old new fault e same = let is : other ≡ fault = cc in (ap Err is, sym same)
refused_result (Ok step) old new fault e same = absurd cc

pub steps_result : (late : Fault → Bool) (defined : Result Step Fault) (old new : World) (result : Result ℕ Fault) → result ≢ Err NoMemory → Steps late defined old result new → (event_result defined ≡ result) × (after_step old defined ≡ new)
steps_result late defined old new (Ok made) ne steps = moved_result defined old new made steps
steps_result late defined old new (Err NoMemory) ne steps = absurd (ne refl)
steps_result late defined old new (Err fault) ne steps = refused_result defined old new fault steps.0 steps.1

module _ (late : Fault → Bool) (plan : Plan) (old new : World) (event : Event) (result : Result ℕ Fault) (ne : result ≢ Err NoMemory) (steps : Steps late (step plan old event) old result new) (so_far : List (Result ℕ Fault)) (later : List Event) where
  both : (event_result (step plan old event) ≡ result) × (after_step old (step plan old event) ≡ new)
  both = steps_result late (step plan old event) old new result ne steps

  pub results_on : (so_far ++ result ∷ []) ++ results plan new later ≡ so_far ++ results plan old (event ∷ later)
  results_on = append_assoc so_far (result ∷ []) (results plan new later) ∙ sym (ap₂ (λ (r : Result ℕ Fault) (w : World). so_far ++ r ∷ results plan w later) both.0 both.1)

  pub run_on : run plan new later ≡ run plan old (event ∷ later)
  run_on = sym (ap (λ (w : World). run plan w later) both.1)

-- what is left of orders, when one was followed
pub order_rest : (late : Fault → Bool) (plan : Plan) (old new : World) (results : List (Result ℕ Fault)) (orders left : List Order) (order : Order) → orders ≡ order ∷ left → (result : Result ℕ Fault) → result ≢ Err NoMemory → Steps late (step plan old (ordered results order)) old result new
    → events_from plan old results orders ≡ ordered results order ∷ events_from plan new (results ++ result ∷ []) left
order_rest late plan old new results orders left order is result ne steps = grind (arith, common_steps, steps_result)

-- how many messages were made, when one event more has happened
pub total_on : (late : Fault → Bool) (plan : Plan) (old new : World) (event : Event) (result : Result ℕ Fault) → result ≢ Err NoMemory → Steps late (step plan old event) old result new → (so_far : List (Result ℕ Fault)) → total_made so_far ≡ length old.messages → total_made (so_far ++ result ∷ []) ≡ length new.messages
total_on late plan old new event result ne steps so_far total = grind (arith, common_steps, steps_result, grows, total_made-push)

-- one list of events after another
run-append : (plan : Plan) (world : World) (earlier later : List Event) → run plan world (earlier ++ later) ≡ run plan (run plan world earlier) later
run-append plan world [] later = refl
run-append plan world (event ∷ earlier) later = run-append plan (after plan world event) earlier later

-- the world after both lists
whole_run : (plan : Plan) (events earlier later : List Event) → earlier ++ later ≡ events → run plan (run plan (opening plan) earlier) later ≡ run plan (opening plan) events
whole_run plan events earlier later is = sym (run-append plan (opening plan) earlier later) ∙ ap (run plan (opening plan)) is

-- what lasts from one list to the other lasts to the end of both
pub lasting : (plan : Plan) → IsCertified plan → AcknowledgementsLast → (events : List Event) → KeepsAcknowledgements plan events
lasting plan certified last events earlier later is = subst (StaysSo (run plan (opening plan) earlier)) (whole_run plan events earlier later is) (last plan certified earlier later)

pub finds_lasting : (plan : Plan) → FindsLast → (events : List Event) → KeepsFinds plan events
finds_lasting plan last events earlier later volume is found = grind (arith, common_steps, (whole_run plan events earlier later is))
