-- A mailbox and its seats as seen by contracts.
use Rattle.std.specs.Prelude.{◌≡◌, ℕ, List, [], Option, length}
use Rattle.atomic_table.specs.Seated.{TableId}
use Rattle.atomic_table.specs.declared.badge.Badge.{Badge}
use Rattle.crossbeam_channel.specs.Claims.{view}
use Rattle.crossbeam_channel.specs.Ends.{ruled_capacity, sends_on}
use Rattle.crossbeam_channel.specs.declared.flavors.array.Key.{Key}
use Rattle.board.specs.Shares.{first_of}
use Rattle.node_fleet.specs.declared.mailbox.MailStep.{MailStep}
use Rattle.node_fleet.specs.declared.mailbox.MailSeat.{MailSeat}
use Rattle.node_fleet.specs.declared.mailbox.Mailbox.{Mailbox}

-- the identity of a mailbox, and the number of its seats
pub record MailboxId : Type 0 where
  pub table : TableId
  pub key : Badge (Key (Option ℕ))
  pub seats : ℕ

abbrev pub id_of : Mailbox → MailboxId
id_of m = record {
  table = (sends_on m.to).stamps.shared.table_id;
  key = (sends_on m.to).stamps.shared.key;
  seats =
      m.seats;
}

-- the number of seats of the mailbox
abbrev pub seats_of : Mailbox → ℕ
seats_of m = m.seats

-- the number of letters for which it has room
abbrev pub capacity_of : Mailbox → ℕ
capacity_of m = ruled_capacity (sends_on m.to)

-- the steps of each seat that this one stands for: one seat, or several that were taken back, the last one first
abbrev pub returned : MailSeat → List (List MailStep)
returned seat = (view seat.pass).1.1

-- the steps of the seat, oldest first
abbrev pub steps_of : MailSeat → List MailStep
steps_of seat = first_of (returned seat)

-- one or more seats of the mailbox with this identity
abbrev pub AreSeatsIn : MailboxId → MailSeat → Type 0
AreSeatsIn id seat = (seat.pass.table_id ≡ id.table) × (seat.pass.me.0.of ≡ id.key) × (seat.pass.me.1 ≡ [])
    × ((view seat.pass).0 ≡ id.seats)

-- one or more seats of this mailbox
abbrev pub AreSeatsOf : Mailbox → MailSeat → Type 0
AreSeatsOf m seat = AreSeatsIn (id_of m) seat

-- one seat of the mailbox with this identity
abbrev pub IsSeatIn : MailboxId → MailSeat → Type 0
IsSeatIn id seat = AreSeatsIn id seat × (length (returned seat) ≡ 1)

-- one seat of this mailbox
abbrev pub IsSeatOf : Mailbox → MailSeat → Type 0
IsSeatOf m seat = IsSeatIn (id_of m) seat
