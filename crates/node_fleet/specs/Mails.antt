-- The mailboxes of a volume's nodes, and a caller's seats, as seen by contracts.
use Rattle.std.specs.Prelude.{◌≡◌, ◌≢◌, ℕ, ◌&&◌, nat_lt, Bool, All, List, [], ◌∷◌, length, map, Option, Some, None, is_some, option_map, slice_get}
use Rattle.volume_model.specs.Common.{Plan, is_named}
use Rattle.node_fleet.specs.declared.mailbox.Mailbox.{Mailbox}
use Rattle.node_fleet.specs.declared.mailbox.MailSeat.{MailSeat}
use Rattle.node_fleet.specs.declared.mailbox.MailStep.{MailStep}
use Rattle.node_fleet.specs.Mail.{AreKept}
use Rattle.node_fleet.specs.Seats.{capacity_of, id_of, returned, seats_of, steps_of, AreSeatsIn as AreSeatsAt, IsSeatIn, MailboxId}
use Rattle.world.specs.Slots.{members, slot_of, in_slot}
use Rattle.node_fleet.specs.declared.mailboxes.Mailboxes.{Mailboxes}
use Rattle.node_fleet.specs.declared.mailboxes.MailSeats.{MailSeats}

-- the identity of the mailbox in each slot
abbrev pub ids_in : List (Option Mailbox) → List (Option MailboxId)
ids_in boxes = map (option_map id_of) boxes

abbrev pub ids_of : Mailboxes → List (Option MailboxId)
ids_of mailboxes = ids_in mailboxes.boxes.items

-- the seat belongs to the mailbox; if there is no mailbox there is no seat
abbrev pub Fits : Option MailboxId → Option MailSeat → Type 0
Fits None None = Unit {0}
Fits (Some id) (Some seat) = IsSeatIn id seat
Fits id seat = ⊥

-- each seat belongs to the mailbox in its slot
abbrev pub FitEach : List (Option MailboxId) → List (Option MailSeat) → Type 0
FitEach [] [] = Unit {0}
FitEach (id ∷ ids) (seat ∷ seats) = Fits id seat × FitEach ids seats
FitEach ids seats = ⊥

-- the seats belong to these mailboxes
abbrev pub AreSeatsIn : List (Option MailboxId) → MailSeats → Type 0
AreSeatsIn ids seats = FitEach ids seats.seats.items

abbrev pub AreSeatsOf : Mailboxes → MailSeats → Type 0
AreSeatsOf mailboxes seats = AreSeatsIn (ids_of mailboxes) seats

-- the steps of a seat; none if there is no seat
abbrev pub seat_steps : Option (Option MailSeat) → List MailStep
seat_steps (Some (Some seat)) = steps_of seat
seat_steps other = []

-- the steps at the mailbox of the node in this slot, oldest first
abbrev pub steps_at : MailSeats → ℕ → List MailStep
steps_at seats slot = seat_steps (slice_get seats.seats.items slot)

-- the seats have made no step at any mailbox
abbrev pub HasNoSteps : MailSeats → Type 0
HasNoSteps seats = (slot : ℕ) → steps_at seats slot ≡ []

-- the node of this member has a mailbox
abbrev pub has_mailbox : Mailboxes → ℕ → ℕ → Bool
has_mailbox mailboxes group member = nat_lt member members && is_some
    (in_slot (slice_get mailboxes.boxes.items (slot_of group member)))

-- exactly the nodes that the plan names have a mailbox
abbrev pub HasNodes : Plan → Mailboxes → Type 0
HasNodes plan mailboxes = (group member : ℕ) → has_mailbox mailboxes group member ≡ is_named plan group member

-- the mailbox, if there is one, has this many seats and room for 1,024 letters
abbrev pub IsNew : ℕ → Option Mailbox → Type 0
IsNew count None = Unit {0}
IsNew count (Some m) = (seats_of m ≡ count) × (capacity_of m ≡ 1024)

abbrev pub AreNew : ℕ → Mailboxes → Type 0
AreNew count mailboxes = All (IsNew count) mailboxes.boxes.items

-- new seats of the mailbox, this many; no seats if there is no mailbox
abbrev pub AreNewSeats : ℕ → Option Mailbox → List MailSeat → Type 0
AreNewSeats count None seats = seats ≡ []
AreNewSeats count (Some mailbox) seats = (length seats ≡ count) × All
    (λ s. IsSeatIn (id_of mailbox) s × (steps_of s ≡ [])) seats

-- the steps at the node in this slot changed as Adds says, and the steps at all other nodes are unchanged
pub record ChangesAt (slot : ℕ) (Adds : List MailStep → List MailStep → Type 0) (before after : MailSeats) : Type 0
  where
    pub here : Adds (steps_at before slot) (steps_at after slot)
    pub others : (other : ℕ) → other ≢ slot → steps_at after other ≡ steps_at before other

-- the mailbox is in this slot
abbrev pub Has : Mailboxes → ℕ → Mailbox → Type 0
Has mailboxes slot mailbox = slice_get mailboxes.boxes.items slot ≡ Some (Some mailbox)

-- the steps of each seat that was taken back; none if there is no mailbox
abbrev pub lists_of : Option (Option MailSeat) → List (List MailStep)
lists_of (Some (Some seat)) = returned seat
lists_of other = []

-- the same for the mailbox of the node in this slot
abbrev pub back_at : MailSeats → ℕ → List (List MailStep)
back_at all slot = lists_of (slice_get all.seats.items slot)

-- there is a seat for each mailbox
abbrev pub HaveSeats : List (Option Mailbox) → List (Option MailSeat) → Type 0
HaveSeats boxes seats = (slot : ℕ) (m : Mailbox) → slice_get boxes slot ≡ Some (Some m) → (s : MailSeat)
    × (slice_get seats slot ≡ Some (Some s)) × AreSeatsAt (id_of m) s

abbrev pub AreBack : Mailboxes → MailSeats → Type 0
AreBack mailboxes all = HaveSeats mailboxes.boxes.items all.seats.items

-- at each mailbox these seats were taken back too
abbrev pub TakesBack : Mailboxes → MailSeats → MailSeats → MailSeats → Type 0
TakesBack mailboxes seats before after = (slot : ℕ) (m : Mailbox) → Has mailboxes slot m → back_at after slot
    ≡ steps_at seats slot ∷ back_at before slot

-- at each mailbox all seats were taken back
abbrev pub AreWhole : Mailboxes → MailSeats → Type 0
AreWhole mailboxes all = (slot : ℕ) (m : Mailbox) → Has mailboxes slot m → length (back_at all slot) ≡ seats_of m

-- at each mailbox the steps of the seats that were taken back follow its rule
abbrev pub AreAllKept : Mailboxes → MailSeats → Type 0
AreAllKept mailboxes all = (slot : ℕ) (m : Mailbox) → Has mailboxes slot m → AreKept (back_at all slot)
