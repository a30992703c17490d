-- A line of a script as the program keeps it.
use Rattle.std.specs.Prelude.{ℕ, ◌-◌, List, Option, Some, None, slice_index_or}
use Rattle.volume_model.specs.World as model
use Rattle.world.specs.Events.{event_of}
use Rattle.world.specs.declared.event.Order.{Order}
use Rattle.world.specs.declared.event.Order.TheVariants as orders
use Rattle.drivers.specs.Grammar.{LineAction}
use Rattle.drivers.specs.Grammar.LineAction.{Nothing, Pauses, Makes, Delivers, Takes}
use Rattle.drivers.specs.declared.line.Line.{Line}
use Rattle.drivers.specs.declared.line.Line.TheVariants as lines

-- An order: an event, or a node or a client taking a message of the event with an index.
pub data Asked : Type 0 where
  Fixed : model.Event → Asked
  From : (group member event place : ℕ) → Asked
  TakeFrom : (volume event place : ℕ) → Asked

-- a line as the program keeps it: nothing, a wait, or an order
pub data Seen : Type 0 where
  Silent : Seen
  Pause : Seen
  Asks : Asked → Seen

abbrev pub asked_by : Order → Asked
asked_by (orders.Event event) = Asked.Fixed (event_of event.value)
asked_by (orders.DeliverFrom group member event place) = Asked.From group member event place
asked_by (orders.TakeFrom volume event place) = Asked.TakeFrom volume event place

abbrev pub seen : Line → Seen
seen lines.Empty = Seen.Silent
seen lines.Wait = Seen.Pause
seen (lines.Order order) = Seen.Asks (asked_by order)

-- The delivery of a message of the line whose event has this index. A line without an event made no message; no message
-- has number 0.
abbrev pub asked_from : ℕ → ℕ → ℕ → Option ℕ → Asked
asked_from group member place (Some event) = Asked.From group member event place
asked_from group member place None = Asked.Fixed (model.Event.Deliver group member 0)

-- The same for a client that takes a message.
abbrev pub take_from : ℕ → ℕ → Option ℕ → Asked
take_from volume place (Some event) = Asked.TakeFrom volume event place
take_from volume place None = Asked.Fixed (model.Event.Take volume 0)

-- an action as the program keeps it, where events has the indexes of the earlier lines' events
abbrev pub seen_action : List (Option ℕ) → LineAction → Seen
seen_action events Nothing = Seen.Silent
seen_action events Pauses = Seen.Pause
seen_action events (Makes event) = Seen.Asks (Asked.Fixed event)
seen_action events (Delivers group member line place) = Seen.Asks
    (asked_from group member place (slice_index_or events (line - 1) None))
seen_action events (Takes volume line place) = Seen.Asks
    (take_from volume place (slice_index_or events (line - 1) None))
