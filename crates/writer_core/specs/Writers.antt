-- The client of the model for a writer, and a writer's answers.
use Rattle.std.specs.Prelude.{◌≡◌, ℕ, ◌+◌, ◌^◌, ◌≤◌, true, List, [], ◌∷◌, length, max, Vec}
use Rattle.std.specs.Global.{Global}
use Rattle.volume_model.specs.Common.{Plan, Redo, last_lsn, Lineage, last_start, ClientGroup, ClientStep, Change, is_transaction, Installing, Writing}
use Rattle.volume_model.specs.Client.{Client}
use Rattle.lineage.specs.Lineage.{lineage_of}
use Rattle.wire.specs.declared.carried.Carried.{Carried}
use Rattle.wire.specs.declared.message.Message.{Message}
use Rattle.wire.specs.declared.messages.Messages.{Messages}
use Rattle.wire.specs.Common.{listed, message_of, messages_of}
use Rattle.writer_core.specs.Carried.{carried_write}
use Rattle.writer_core.specs.Logs.{log_of_set}
use Rattle.writer_core.specs.Log.{found_of, log_in}
use Rattle.writer_core.specs.Groups.{groups_in, group_states_plan}
use Rattle.writer_core.specs.declared.writer.Writer.{Writer}

-- the plan of a writer
abbrev pub writer_plan : Writer → Plan
writer_plan w = group_states_plan w.group_states

-- the volume epoch of a writer
abbrev pub writer_volume : Writer → ℕ
writer_volume w = w.volume

-- the client of the model for a writer
abbrev pub client_of : Writer → Client
client_of w = record {
  stage = Writing;
  groups = groups_in w.group_states;
  lineage = lineage_of w.lineage;
  found =
      log_of_set (found_of w.log);
  log = log_in w.log;
}

-- a recovery that has cut, with this state of its groups, this lineage, and this log found
abbrev pub installing : List ClientGroup → Lineage → List Redo → Client
installing groups lineage log = record {
  stage = Installing;
  groups = groups;
  lineage = lineage;
  found = log;
  log =
      log;
}

-- a valid transaction for which there are LSNs
pub record CanIssue (plan : Plan) (client : Client) (changes : List Change) : Type 0 where
  pub good : is_transaction (length client.groups) changes ≡ true
  pub room : max (last_lsn client.log) (last_start client.lineage) + length changes ≤ 2 ^ 62

-- the step that makes these messages and leaves the client
abbrev pub acted : Vec Message Global → Client → ClientStep
acted messages client = record { made = messages_of messages.items; client = client }

-- the same for messages that may need no list
abbrev pub answered : Messages → Client → ClientStep
answered messages client = record { made = messages_of (listed messages); client = client }

-- the step that makes no message and leaves the client
abbrev pub silent : Unit {0} → Client → ClientStep
silent u client = record { made = []; client = client }

-- the step that makes this message and leaves the client
abbrev pub asked : Message → Client → ClientStep
asked message client = record { made = message_of message ∷ []; client = client }

-- the step that makes the Write of this record and leaves the client
abbrev pub sent : Carried → Client → ClientStep
sent carried client = record { made = carried_write carried ∷ []; client = client }
