-- What a client installs in groups that it first saw after its cut.
use Rattle.std.specs.Prelude.{◌≡◌, ℕ, ◌≤◌, true, List, [], length}
use Rattle.volume_model.specs.Lists.{IsIn}
use Rattle.volume_model.specs.Lineage.{Contents}
use Rattle.volume_model.specs.Pieces.{Piece}
use Rattle.volume_model.specs.Message.{Label}
use Rattle.volume_model.specs.Message.Message.{Install}
use Rattle.volume_model.specs.Plan.{Plan, IsCertified}
use Rattle.volume_model.specs.Client.{has_cut}
use Rattle.volume_model.specs.World.{World, Event, run, opening}

-- in groups that the client has in the later world and lacked in the earlier one, it installs no records
abbrev pub InstallsNothingNew : World → World → ℕ → Type 0
InstallsNothingNew world later volume =
    (group : ℕ) (label : Label) (piece : Piece) (contents : Contents) → length (world.clients volume).groups ≤ group
    → label.volume ≡ volume
    → IsIn (Install group label piece contents) later.messages → contents.records ≡ []

-- for every two lists of events, the second after the first, from the opening world of a certified plan, if the client
-- had cut after the first
abbrev pub NewGroupsAreEmpty : Type 0
NewGroupsAreEmpty =
    (plan : Plan) → IsCertified plan → (events more : List Event) (volume : ℕ)
    → has_cut ((run plan (opening plan) events).clients volume).stage ≡ true
    → InstallsNothingNew (run plan (opening plan) events) (run plan (run plan (opening plan) events) more) volume
