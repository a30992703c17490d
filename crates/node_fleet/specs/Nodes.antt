-- A node's actor as seen by contracts.
use Rattle.std.specs.Prelude.{◌≡◌, ◌≢◌, ℕ, IfErr, IfOk, Option, OnErr, Result, Ok}
use Rattle.std.specs.declared.sync.ledger.Ledger.{Ghosts as LedgerGhosts}
use Rattle.volume_model.specs.declared.fault.Fault.{Fault}
use Rattle.volume_model.specs.declared.fault.Fault.TheVariants.{NoMessage}
use Rattle.volume_model.specs.Common.{deliver, Deliver, Fails, Message, NodeAnswer}
use Rattle.volume_model.specs.Node.{Node}
use Rattle.segment_core.specs.declared.prepared.Prepared.{Prepared}
use Rattle.segment_core.specs.Prepared.{step_of}
use Rattle.segment_core.specs.Segment.{node_of, IsReady}
use Rattle.journal.specs.declared.row.Site.{Ghosts as SiteGhosts}
use Rattle.journal.specs.declared.entry.Receipt.{Receipt}
use Rattle.journal.specs.declared.pass.Pass.{Pass}
use Rattle.journal.specs.Passes.{seat_of}
use Rattle.node_fleet.specs.declared.halt.Halt.{Halt}
use Rattle.node_fleet.specs.declared.halt.Halt.TheVariants.{Refused}
use Rattle.node_fleet.specs.declared.node.NodeActor.{NodeActor}
use Rattle.node_fleet.specs.RecordsAttempt.{PassRecords}

module _ {X : Type 0} {s : SiteGhosts X} {l : LedgerGhosts X} where
  -- the group of a node
  abbrev pub actor_group : NodeActor X s l → ℕ
  actor_group actor = actor.group

  -- the member of a node
  abbrev pub actor_member : NodeActor X s l → ℕ
  actor_member actor = actor.member

  -- the node of the model for the actor
  abbrev pub actor_node : NodeActor X s l → Node
  actor_node actor = node_of actor.segment

  -- its answer to a message that was looked up
  abbrev pub delivery_of : NodeActor X s l → Option Message → NodeAnswer
  delivery_of actor found = deliver s.plan actor.group actor.member (node_of actor.segment) found

  -- the reaction to the message was prepared, or refused as defined
  pub record PreparesReaction (found : Option Message) (result : Result Prepared Fault) (actor : NodeActor X s l)
      : Type 0 where
    pub ready : IfOk result (λ prepared. IsReady actor.segment prepared)
    pub step : IfOk result (λ prepared. delivery_of actor found ≡ Ok (step_of prepared (node_of actor.segment)))
    pub fails : IfErr result (λ fault. Fails fault (delivery_of actor found))

  -- the delivery is recorded in the pass; the node is unchanged if it was refused
  pub record Reacts (number : ℕ) (result : Result Receipt Halt) (old new : NodeActor X s l) (before after : Pass X s)
      : Type 0 where
    pub recorded : PassRecords (Deliver (actor_group old) (actor_member old) number) result before after
    pub seat : seat_of after ≡ seat_of before
    pub found : IfErr result (λ halt. halt ≢ Refused NoMessage)
    pub same : (actor_group new ≡ actor_group old) × (actor_member new ≡ actor_member old)
    pub still : OnErr result (actor_node new ≡ actor_node old)
