-- What a client is: a recovery, and the writer that it becomes.
use Rattle.std.specs.Prelude.{ℕ, Bool, true, false, not, List, [], Result, replicate, slice_index_or}
use Rattle.volume_model.specs.Redo.{Redo}
use Rattle.volume_model.specs.Lineage.{Lineage, birth}
use Rattle.volume_model.specs.Plan.{Plan, Configuration}
use Rattle.volume_model.specs.Message.{Label, Place, Message}
use Rattle.volume_model.specs.Node.{From}
use Rattle.volume_model.specs.Refusal.{refuse_if}
use Rattle.volume_model.specs.declared.fault.Fault.{Fault}
use Rattle.volume_model.specs.declared.fault.Fault.TheVariants.{NoActor}

-- the stage that a client has reached
pub data Stage : Type 0 where
  Unborn : Stage
  Reading : Stage
  Installing : Stage
  Writing : Stage

-- the client has taken a View
abbrev pub is_born : Stage → Bool
is_born Unborn = false
is_born Reading = true
is_born Installing = true
is_born Writing = true

-- the client has cut: its lineage and its log found no longer change
abbrev pub has_cut : Stage → Bool
has_cut Unborn = false
has_cut Reading = false
has_cut Installing = true
has_cut Writing = true

-- the client is a writer
abbrev pub is_open : Stage → Bool
is_open Unborn = false
is_open Reading = false
is_open Installing = false
is_open Writing = true

-- a counted acknowledgement: its sender, and the greatest complete point that the sender has reported
pub record Count : Type 0 where
  pub sender : ℕ
  pub reached : ℕ

-- what a client keeps for a group: its place, the reports kept, the acknowledgements counted, the group point, and
-- whether the group has joined the open writer
pub record ClientGroup : Type 0 where
  pub place : Place
  pub reports : List From
  pub counts : List Count
  pub group_point : ℕ
  pub joined : Bool

-- a group at a place, of which the client has received nothing yet
abbrev pub newly_at : Place → ClientGroup
newly_at place = record { place = place; reports = []; counts = []; group_point = 0; joined = false }

-- the value for a group that the client doesn't have
abbrev pub no_group : ClientGroup
no_group = newly_at (record { configuration = 0; epoch = 0 })

-- the group with a number
abbrev pub group_of : List ClientGroup → ℕ → ClientGroup
group_of groups group = slice_index_or groups group no_group

-- the place of the group with a number
abbrev pub place_of : List ClientGroup → ℕ → Place
place_of groups group = (group_of groups group).place

-- the reports kept for the group with a number
abbrev pub reports_of : List ClientGroup → ℕ → List From
reports_of groups group = (group_of groups group).reports

-- the acknowledgements counted for the group with a number
abbrev pub counts_of : List ClientGroup → ℕ → List Count
counts_of groups group = (group_of groups group).counts

-- the point of the group with a number
abbrev pub group_point_of : List ClientGroup → ℕ → ℕ
group_point_of groups group = (group_of groups group).group_point

-- a recovery, and the writer that it becomes. The groups are in order of their numbers, the log found and the log
-- newest first
pub record Client : Type 0 where
  pub stage : Stage
  pub groups : List ClientGroup
  pub lineage : Lineage
  pub found : List Redo
  pub log : List Redo

-- the place of each group at first
abbrev pub at_root : Place
at_root = record { configuration = 0; epoch = 1 }

-- a group that exists when the volume is born, as the first writer has it
abbrev pub born_group : ClientGroup
born_group = record (newly_at at_root) { joined = true }

-- the writer of volume epoch 1, with no record, over the groups that exist at birth
abbrev pub first_writer : Plan → Client
first_writer plan = record {
  stage = Writing;
  groups = replicate plan.born born_group;
  lineage = birth;
  found = [];
  log
      = [];
}

-- a client that has taken no View
abbrev pub unborn : Client
unborn = record { stage = Unborn; groups = []; lineage = []; found = []; log = [] }

-- the configuration at a group's place
abbrev pub place_configuration : Plan → ℕ → Place → Configuration
place_configuration plan group place = plan.configuration group place.configuration

-- the result of a client's step
pub record ClientStep : Type 0 where
  pub made : List Message
  pub client : Client

-- a step, or the number of a refusal
abbrev pub ClientAnswer : Type 0
ClientAnswer = Result ClientStep Fault

-- the label that a client puts on messages to a group
abbrev pub label_of : ℕ → (ℕ → Place) → ℕ → Label
label_of volume places group = record { volume = volume; member = (places group).epoch }

-- the step that changes nothing
abbrev pub stays : Client → ClientStep
stays client = record { made = []; client = client }

-- refused if the client isn't born
abbrev pub if_born : Client → ClientAnswer → ClientAnswer
if_born client rest = refuse_if (not (is_born client.stage)) NoActor rest
