-- What a step does to the messages.
use Rattle.std.proofs.Common.{◌≡◌, ◌+◌, List, length, Some, Result, Ok, Err, refl, sym, ap, subst}
use Rattle.volume_model.specs.declared.fault.Fault.{Fault}
use Rattle.volume_model.specs.Common.{added, IsBeginningOf, Plan, Message, World, Event, Step, step, after, after_step, Actor, Acted, Keeps, in_world, makes}
use Rattle.volume_model.proofs.ActorSteps.{step_of_actor}
use Rattle.volume_model.proofs.ListFacts.{added_before, beginning-refl, length-added}
use Rattle.std.proofs.lemmas.Grind.{common_steps}
use Rattle.std.proofs.Common.{arith}

-- a step that isn't refused puts what it makes before the messages
abbrev pub Leaves : World → Result Step Fault → List Message → Type 0
Leaves w r ms = ((after_step w r).messages ≡ added ms w.messages) × (length (after_step w r).messages ≡ length w.messages + length ms)

in_world-leaves : (w : World) (actor : Actor) (r : Result (Acted actor) Fault) (ms : List Message) → makes (in_world w actor r) ≡ Some ms → Leaves w (in_world w actor r) ms
in_world-leaves w actor (Err fault) ms h = absurd (cc)
in_world-leaves w actor (Ok s) ms h = grind (arith, common_steps, length-added)

-- the messages that a step makes stand before the others, in the order of the model
pub messages_grow : (plan : Plan) (w : World) (e : Event) (ms : List Message) → makes (step plan w e) ≡ Some ms → ((after plan w e).messages ≡ added ms w.messages) × (length (after plan w e).messages ≡ length w.messages + length ms)
messages_grow plan w e ms = grind (arith, common_steps, Some, Leaves, step_of_actor, in_world-leaves)

unmoved : (w : World) (r : Result Step Fault) (fault : Fault) → r ≡ Err fault → after_step w r ≡ w
unmoved w r fault h = ap (after_step w) h

-- a refused event changes nothing
pub refused_same : (plan : Plan) (w : World) (e : Event) (fault : Fault) → step plan w e ≡ Err fault → after plan w e ≡ w
refused_same plan w e fault h = unmoved w (step plan w e) fault h

made_or_refused : (w : World) (r : Result Step Fault) → ((ms : List Message) → makes r ≡ Some ms → (after_step w r).messages ≡ added ms w.messages) → IsBeginningOf w.messages (after_step w r).messages
made_or_refused w (Err fault) grow = beginning-refl w.messages
made_or_refused w (Ok s) grow = subst (λ (l : List Message). IsBeginningOf w.messages l) (sym (grow s.made refl)) (added_before s.made w.messages)

-- messages stay
pub keeps_after : (plan : Plan) (w : World) (e : Event) → Keeps w (after plan w e)
keeps_after plan w e = made_or_refused w (step plan w e) (λ ms h. (messages_grow plan w e ms h).0)
