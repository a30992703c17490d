-- What clients and nodes keep of received messages is in messages that were made.
use Rattle.std.specs.Prelude.{◌≡◌, ◌≢◌, ℕ, ◌<◌, List, Some}
use Rattle.volume_model.specs.Lists.{IsIn}
use Rattle.volume_model.specs.Pieces.{KeptPiece, Pieces, Copy, piece_in}
use Rattle.volume_model.specs.Message.Message.{Report, Install, CopyReport}
use Rattle.volume_model.specs.Node.{From}
use Rattle.volume_model.specs.Plan.{Plan, IsCertified}
use Rattle.volume_model.specs.Client.{reports_of}
use Rattle.volume_model.specs.World.{World, Event, opening, run}

-- A client's kept reports, for groups of the plan, were made under its volume epoch. A node's kept pieces of a copy
-- were made at its membership epoch, those of an install under the install's volume epoch. The first writer takes no
-- reports.
pub record KeepsMade (plan : Plan) (world : World) : Type 0 where
  pub reports : (volume group : ℕ) → volume ≢ 1 → group < plan.groups → (from : From)
      → IsIn from (reports_of (world.clients volume).groups group) → (member : ℕ)
      × IsIn (Report group (record { volume = volume; member = member }) from.sender from.contents) world.messages
  pub copies : (group member : ℕ) → group < plan.groups → (copy : Copy) → IsIn copy (world.nodes group member).copies
      → (kept : KeptPiece) → IsIn kept copy.pieces.kept → IsIn (CopyReport group (world.nodes group member).place.epoch
      copy.sender copy.pieces.series (piece_in copy.pieces kept) kept.contents) world.messages
  pub installs : (group member : ℕ) → group < plan.groups → (pieces : Pieces) → (world.nodes group member).install
      ≡ Some pieces → (kept : KeptPiece) → IsIn kept pieces.kept → (epoch : ℕ)
      × IsIn (Install group (record { volume = pieces.series; member = epoch }) (piece_in pieces kept) kept.contents)
      world.messages

-- for every list of events, from the opening world of a certified plan
abbrev pub ReportsWereMade : Type 0
ReportsWereMade = (plan : Plan) → IsCertified plan → (events : List Event) → KeepsMade plan
    (run plan (opening plan) events)
