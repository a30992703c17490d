-- The durable point of a writer that opens.
use Rattle.std.specs.Prelude.{◌≡◌, ℕ, List, Ok}
use Rattle.volume_model.specs.Lineage.{last_cut}
use Rattle.volume_model.specs.Plan.{Plan, IsCertified}
use Rattle.volume_model.specs.Client.{Client}
use Rattle.volume_model.specs.ClientPoints.{durable_point}
use Rattle.volume_model.specs.World.{Event, Step, opening, run, step}
use Rattle.volume_model.specs.World.Event.{Open}

-- the writer's durable point is the cut of its own lineage entry
abbrev pub IsAtItsCut : Client → Type 0
IsAtItsCut client = durable_point client ≡ last_cut client.lineage

-- in every run of a certified plan the durable point of a client that opens is its cut
abbrev pub OpensAtItsCut : Type 0
OpensAtItsCut = (plan : Plan) → IsCertified plan → (events : List Event) (volume : ℕ) (opened : Step)
    → step plan (run plan (opening plan) events) (Open volume) ≡ Ok opened → IsAtItsCut (opened.world.clients volume)
