-- The steps of a pass, and their places in the journal.
use Rattle.std.specs.Prelude.{◌≡◌, ℕ, suc, ◌+◌, ◌<◌, ◌≤◌, if◌then◌else◌, List, length, take, Some, slice_get}
use Rattle.volume_model.specs.Common.{Plan, is_open, durable_point, World, Event, Take, Open, named_by, world_at, before}
use Rattle.volume_model.specs.Client.{Client}
use Rattle.volume_model.specs.Journal.{Entry}

-- the durable point of a client, 0 before its opening
abbrev pub durable_of : Client → ℕ
durable_of client = if is_open client.stage then durable_point client else 0

-- the durable point of the event's client if the event may move it, else 0
abbrev pub durable_in : World → Event → ℕ
durable_in w (Take volume number) = durable_of (w.clients volume)
durable_in w (Open volume) = durable_of (w.clients volume)
durable_in w event = 0

-- a step of a pass: the place of its entry, the entry, and the durable point in it
pub record Made : Type 0 where
  pub at : ℕ
  pub entry : Entry
  pub durable : ℕ

-- the step with this place, entry and durable point
abbrev pub made : ℕ → Entry → ℕ → Made
made at entry durable = record { at = at; entry = entry; durable = durable }

-- the step's entry is at its place of the journal, and its durable point is right
pub record Stands (plan : Plan) (es : List Entry) (s : Made) : Type 0 where
  pub stands : slice_get es s.at ≡ Some s.entry
  pub durable : s.durable ≡ durable_in (world_at plan (take (suc s.at) es)) s.entry.event

-- each message that an entry names was made before it
abbrev pub NamesEarlier : Plan → List Entry → Type 0
NamesEarlier plan es = (k : ℕ) (e : Entry) (n : ℕ) → slice_get es k ≡ Some e → named_by e.event ≡ Some n → n
    ≤ before plan es k

-- the step didn't make the message with this number
abbrev pub IsElse : ℕ → Made → Type 0
IsElse number s = s.entry.first < number → number ≤ s.entry.first + length s.entry.made → ⊥
