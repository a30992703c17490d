-- The events of the model for a program's events.
use Rattle.std.specs.Prelude.{ℕ, zero, suc, ◌+◌, ◌&&◌, nat_le, if◌then◌else◌, List, [], ◌∷◌, ◌++◌, map, Result, Ok, Err}
use Rattle.volume_model.specs.declared.fault.Fault.{Fault}
use Rattle.volume_model.specs.Common.{Plan, World, opening, step, after, event_result}
use Rattle.volume_model.specs.World as model
use Rattle.writer_core.specs.Changes.{changes_of}
use Rattle.world.specs.declared.event.Event.{Event}
use Rattle.world.specs.declared.event.Event.TheVariants as events
use Rattle.world.specs.declared.event.Order.{Order}
use Rattle.world.specs.declared.event.Order.TheVariants as orders

-- the event of the model for an event
abbrev pub event_of : Event → model.Event
event_of events.Assign = model.Event.Assign
event_of (events.Advance group configuration) = model.Event.Advance group configuration
event_of (events.Refresh volume) = model.Event.Refresh volume
event_of events.Grow = model.Event.Grow
event_of (events.Issue volume changes) = model.Event.Issue volume (changes_of changes.items)
event_of (events.Take volume message) = model.Event.Take volume message
event_of (events.Cut volume) = model.Event.Cut volume
event_of (events.Open volume) = model.Event.Open volume
event_of (events.Resend volume lsn) = model.Event.Resend volume lsn
event_of (events.Read volume group block) = model.Event.Read volume group block
event_of (events.Deliver group member message) = model.Event.Deliver group member message
event_of (events.Hydrate group member) = model.Event.Hydrate group member
event_of (events.Restart group member) = model.Event.Restart group member
event_of (events.Offer group member lsn) = model.Event.Offer group member lsn

-- the events of the model, in order
abbrev pub events_of : List Event → List model.Event
events_of = map event_of

-- the number of messages that an event made, 0 if it was refused
abbrev pub made_by : Result ℕ Fault → ℕ
made_by (Ok made) = made
made_by (Err fault) = 0

-- The number of the place-th message (from 1) that the event with this index made; the first event's messages come
-- after message number first. It is 0, which no message has, if the event made fewer.
abbrev pub number_from : ℕ → List (Result ℕ Fault) → ℕ → ℕ → ℕ
number_from first [] index place = 0
number_from first (result ∷ later) zero place = if nat_le 1 place && nat_le place (made_by result) then first + place
    else 0
number_from first (result ∷ later) (suc index) place = number_from (first + made_by result) later index place

-- the number of messages that all these events made
abbrev pub total_made : List (Result ℕ Fault) → ℕ
total_made [] = 0
total_made (result ∷ later) = made_by result + total_made later

-- the number of messages made before each event; first is that of the first event
abbrev pub firsts_of : ℕ → List (Result ℕ Fault) → List ℕ
firsts_of first [] = []
firsts_of first (result ∷ later) = first ∷ firsts_of (first + made_by result) later

-- the event of an order, after these results
abbrev pub ordered : List (Result ℕ Fault) → Order → model.Event
ordered results (orders.Event event) = event_of event.value
ordered results (orders.DeliverFrom group member event place) = model.Event.Deliver group member
    (number_from 0 results event place)
ordered results (orders.TakeFrom volume event place) = model.Event.Take volume (number_from 0 results event place)

-- the events of orders, from this world on and after these results
abbrev pub events_from : Plan → World → List (Result ℕ Fault) → List Order → List model.Event
events_from plan world results [] = []
events_from plan world results (order ∷ orders) =
    let event = ordered results order in
    event ∷ events_from plan (after plan world event) (results ++ event_result (step plan world event) ∷ []) orders

-- the events of orders, from the birth of a plan's volume on
abbrev pub ordered_events : Plan → List Order → List model.Event
ordered_events plan orders = events_from plan (opening plan) [] orders
