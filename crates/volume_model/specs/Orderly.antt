-- In every run the lineages and records satisfy what the laws on live records, complete points and cuts assume.
use Rattle.std.specs.Prelude.{ℕ, ◌<◌, List}
use Rattle.volume_model.specs.Lists.{IsIn}
use Rattle.volume_model.specs.Redo.{Redo}
use Rattle.volume_model.specs.Lineage.{Lineage, Contents}
use Rattle.volume_model.specs.Pieces.{Piece}
use Rattle.volume_model.specs.Message.{Label}
use Rattle.volume_model.specs.Message.Message.{Report, Install, Write, Gossip, CopyReport}
use Rattle.volume_model.specs.Plan.{Plan, IsCertified}
use Rattle.volume_model.specs.World.{World, Event, opening, run}
use Rattle.volume_model.specs.Live.{EpochsGrow}
use Rattle.volume_model.specs.Finds.{Carries}

-- the links of a record lead to smaller LSNs
pub record LinksFall (r : Redo) : Type 0 where
  pub in_group : r.prev_group < r.lsn
  pub in_volume : r.prev_volume < r.lsn

-- A node or a client's log has the record, or a message carries it.
pub data Brings (world : World) (r : Redo) : Type 0 where
  in_node : (group member : ℕ) → IsIn r (world.nodes group member).contents.records → Brings world r
  in_log : (volume : ℕ) → IsIn r (world.clients volume).log → Brings world r
  in_report : (group : ℕ) (label : Label) (sender : ℕ) (contents : Contents) → IsIn (Report group label sender contents)
      world.messages → IsIn r contents.records → Brings world r
  in_install : (group : ℕ) (label : Label) (piece : Piece) (contents : Contents)
      → IsIn (Install group label piece contents) world.messages → IsIn r contents.records → Brings world r
  in_copy : (group epoch sender series : ℕ) (piece : Piece) (contents : Contents)
      → IsIn (CopyReport group epoch sender series piece contents) world.messages → IsIn r contents.records
      → Brings world r
  in_write : (group : ℕ) (label : Label) → IsIn (Write group label r) world.messages → Brings world r
  in_gossip : (group : ℕ) (label : Label) → IsIn (Gossip group label r) world.messages → Brings world r

-- the epochs of each lineage grow, and the links of each record lead to smaller LSNs
pub record IsOrderly (world : World) : Type 0 where
  pub lineages : (lineage : Lineage) → Carries world lineage → EpochsGrow lineage
  pub records : (r : Redo) → Brings world r → LinksFall r

-- for every list of events, from the opening world of a certified plan
abbrev pub RunsAreOrderly : Type 0
RunsAreOrderly = (plan : Plan) → IsCertified plan → (events : List Event) → IsOrderly (run plan (opening plan) events)
