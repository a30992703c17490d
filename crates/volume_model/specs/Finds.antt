-- A recovery's lineage and log found never change, and a lineage is identified by its last volume epoch.
use Rattle.std.specs.Prelude.{◌≡◌, ℕ, true, List}
use Rattle.volume_model.specs.Lists.{IsIn}
use Rattle.volume_model.specs.Lineage.{Lineage, Contents, last_epoch}
use Rattle.volume_model.specs.Pieces.{Piece}
use Rattle.volume_model.specs.Message.{Label}
use Rattle.volume_model.specs.Message.Message.{Report, Install, CopyReport}
use Rattle.volume_model.specs.Plan.{Plan, IsCertified}
use Rattle.volume_model.specs.Client.{Client, has_cut}
use Rattle.volume_model.specs.World.{World, Event, opening, run}

-- the later client has cut, and has the lineage and the log found of the earlier one
pub record StaysFound (client later : Client) : Type 0 where
  pub cut_on : has_cut later.stage ≡ true
  pub lineage_on : later.lineage ≡ client.lineage
  pub found_on : later.found ≡ client.found

-- a client that has cut keeps its lineage and its log found, whatever events follow in any world
abbrev pub FindsLast : Type 0
FindsLast = (plan : Plan) (world : World) (events : List Event) (volume : ℕ) → has_cut (world.clients volume).stage
    ≡ true → StaysFound (world.clients volume) ((run plan world events).clients volume)

-- A node or a client has the lineage, or a report, an install or a copy carries it.
pub data Carries (world : World) (lineage : Lineage) : Type 0 where
  by_node : (group member : ℕ) → (world.nodes group member).contents.lineage ≡ lineage → Carries world lineage
  by_client : (volume : ℕ) → (world.clients volume).lineage ≡ lineage → Carries world lineage
  by_report : (group : ℕ) (label : Label) (sender : ℕ) (contents : Contents) → IsIn (Report group label sender contents)
      world.messages → contents.lineage ≡ lineage → Carries world lineage
  by_install : (group : ℕ) (label : Label) (piece : Piece) (contents : Contents)
      → IsIn (Install group label piece contents) world.messages → contents.lineage ≡ lineage → Carries world lineage
  by_copy : (group epoch sender series : ℕ) (piece : Piece) (contents : Contents)
      → IsIn (CopyReport group epoch sender series piece contents) world.messages → contents.lineage ≡ lineage
      → Carries world lineage

-- two lineages in a world with the same last volume epoch are equal
abbrev pub HasOneLineageAnEpoch : World → Type 0
HasOneLineageAnEpoch world = (lineage other : Lineage) → Carries world lineage → Carries world other
    → last_epoch lineage ≡ last_epoch other → lineage ≡ other

-- for every list of events, from the opening world of a certified plan
abbrev pub OneLineageAnEpoch : Type 0
OneLineageAnEpoch = (plan : Plan) → IsCertified plan → (events : List Event) → HasOneLineageAnEpoch
    (run plan (opening plan) events)
