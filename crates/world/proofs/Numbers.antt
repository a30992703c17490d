-- The numbers of messages that are named by the events that made them.
use Rattle.std.proofs.Common.{◌≡◌, ℕ, zero, suc, ◌+◌, ◌<◌, ◌≤◌, ◌&&◌, nat_le, if◌then◌else◌, List, [], ◌∷◌, ◌++◌, Some, Result, Ok, Err, length, get_or, refl, ap, arith, ◌⊎◌}
use Rattle.volume_model.specs.declared.fault.Fault.{Fault}
use Rattle.volume_model.specs.Common.{Plan, Message, makes, World, Event, Step, step, after, after_step, event_result}
use Rattle.volume_model.proofs.Growing.{Leaves, messages_grow}
use Rattle.world.specs.Events.{made_by, total_made, firsts_of, number_from}
use Rattle.std.proofs.lemmas.Grind.{common_steps}

pub number_at : (first : ℕ) (results : List (Result ℕ Fault)) (i place : ℕ) (d : Result ℕ Fault) → i < length results → number_from first results i place ≡ (if nat_le 1 place && nat_le place (made_by (get_or results i d)) then get_or (firsts_of first results) i 0 + place else 0)
number_at first [] i place d h = absurd (omega arith)
number_at first (r ∷ later) zero place d h = refl
number_at first (r ∷ later) (suc i) place d h = number_at (first + made_by r) later i place d (omega arith)

pub number_past : (first : ℕ) (results : List (Result ℕ Fault)) (i place : ℕ) → length results ≤ i → number_from first results i place ≡ 0
number_past first [] i place h = refl
number_past first (r ∷ later) zero place h = absurd (omega arith)
number_past first (r ∷ later) (suc i) place h = number_past (first + made_by r) later i place (omega arith)

pub length-firsts_of : (first : ℕ) (results : List (Result ℕ Fault)) → length (firsts_of first results) ≡ length results
length-firsts_of first [] = refl
length-firsts_of first (r ∷ later) = ap suc (length-firsts_of (first + made_by r) later)

pub firsts_of-push : (first : ℕ) (results : List (Result ℕ Fault)) (r : Result ℕ Fault) → firsts_of first (results ++ r ∷ []) ≡ firsts_of first results ++ (first + total_made results) ∷ []
firsts_of-push first [] r = let e : first ≡ first + 0 = omega arith in ap (λ (n : ℕ). n ∷ []) e
firsts_of-push first (s ∷ later) r = grind (arith, common_steps, (firsts_of-push (first + made_by s) later r))

pub total_made-push : (results : List (Result ℕ Fault)) (r : Result ℕ Fault) → total_made (results ++ r ∷ []) ≡ total_made results + made_by r
total_made-push [] r = omega arith
total_made-push (s ∷ later) r = omega (arith, total_made-push later r)

-- the messages of a world grow by those of the step
step_grows : (w : World) (r : Result Step Fault) → ((ms : List Message) → makes r ≡ Some ms → Leaves w r ms) → length (after_step w r).messages ≡ length w.messages + made_by (event_result r)
step_grows w (Ok s) leaves = (leaves s.made refl).1
step_grows w (Err fault) leaves = omega arith

pub grows : (plan : Plan) (w : World) (event : Event) → length (after plan w event).messages ≡ length w.messages + made_by (event_result (step plan w event))
grows plan w event = step_grows w (step plan w event) (messages_grow plan w event)

-- the number, from what the program read
pub number_is : (results : List (Result ℕ Fault)) (firsts : List ℕ) (i place made : ℕ) (d : Result ℕ Fault) → firsts ≡ firsts_of 0 results → i < length results → made ≡ made_by (get_or results i d) → (place ≡ 0 → ⊥) → place ≤ made → get_or firsts i 0 + place ≡ number_from 0 results i place
number_is results firsts i place made d is within reads some most = grind (arith, common_steps, (number_at 0 results i place d within))

pub number_none : (results : List (Result ℕ Fault)) (i place made : ℕ) (d : Result ℕ Fault) → i < length results → made ≡ made_by (get_or results i d) → (place ≡ 0) ⊎ (made < place) → 0 ≡ number_from 0 results i place
number_none results i place made d within reads why = grind (arith, common_steps, (number_at 0 results i place d within))
