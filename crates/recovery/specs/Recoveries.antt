-- The client of the model for a recovery, and a recovery's answers.
use Rattle.std.specs.Prelude.{◌≡◌, ℕ, true, List, [], Option, Some, None, Result, Ok, Err, Vec}
use Rattle.std.specs.Global.{Global}
use Rattle.volume_model.specs.declared.fault.Fault.{Fault}
use Rattle.volume_model.specs.declared.fault.Fault.TheVariants.{NotAddressed}
use Rattle.volume_model.specs.Common.{Plan, View, StepTo, Fence, Report, Install, Write, Gossip, Ack, CopyAsk, CopyReport, PageAsk, Page, ClientGroup, ClientStep, ClientAnswer, unborn, cut_step, has_installed, taken, Reading}
use Rattle.volume_model.specs.Message as model
use Rattle.volume_model.specs.Client.{Client}
use Rattle.lineage.specs.Lineage.{lineage_of}
use Rattle.wire.specs.declared.message.Message.{Message}
use Rattle.wire.specs.Common.{messages_of}
use Rattle.writer_core.specs.declared.writer.Writer.{Writer}
use Rattle.writer_core.specs.Logs.{log_of_set}
use Rattle.writer_core.specs.Groups.{groups_in, keeping, group_states_plan}
use Rattle.writer_core.specs.Writers as writers
use Rattle.recovery.specs.declared.found.Found.{Found}
use Rattle.recovery.specs.declared.recovery.Recovery.{Recovery}

-- the plan of a recovery
abbrev pub recovery_plan : Recovery → Plan
recovery_plan r = group_states_plan r.group_states

-- the volume epoch of a recovery
abbrev pub recovery_volume : Recovery → ℕ
recovery_volume r = r.volume

-- a recovery's state of its groups
abbrev pub recovery_groups : Recovery → List ClientGroup
recovery_groups r = groups_in r.group_states

-- in each group the members with a counted acknowledgement satisfy the write expression
abbrev pub HasInstalled : Recovery → Type 0
HasInstalled r = has_installed (recovery_plan r) (keeping (recovery_groups r)) ≡ true

-- the client with this state of its groups, before its cut or after it
abbrev pub client_with : List ClientGroup → Option Found → Client
client_with groups None = record unborn { stage = Reading; groups = groups }
client_with groups (Some found) = writers.installing groups (lineage_of found.lineage) (log_of_set found.log)

-- the client of the model for a recovery
abbrev pub client_of : Recovery → Client
client_of r = client_with (groups_in r.group_states) r.found

-- the answer to the first message of a client: only a View makes a recovery
abbrev pub birth_of : Plan → model.Message → ClientAnswer
birth_of plan (View volume places) = taken plan volume unborn (View volume places)
birth_of plan (StepTo group place) = Err NotAddressed
birth_of plan (Fence group label) = Err NotAddressed
birth_of plan (Report group label sender contents) = Err NotAddressed
birth_of plan (Install group label piece contents) = Err NotAddressed
birth_of plan (Write group label r) = Err NotAddressed
birth_of plan (Gossip group label r) = Err NotAddressed
birth_of plan (Ack group label sender reached) = Err NotAddressed
birth_of plan (CopyAsk group epoch) = Err NotAddressed
birth_of plan (CopyReport group epoch sender series piece contents) = Err NotAddressed
birth_of plan (PageAsk group label block point) = Err NotAddressed
birth_of plan (Page group label sender block point bytes) = Err NotAddressed

-- the volume epoch of a View, 0 for any other message
abbrev pub view_volume : model.Message → ℕ
view_volume (View volume places) = volume
view_volume (StepTo group place) = 0
view_volume (Fence group label) = 0
view_volume (Report group label sender contents) = 0
view_volume (Install group label piece contents) = 0
view_volume (Write group label r) = 0
view_volume (Gossip group label r) = 0
view_volume (Ack group label sender reached) = 0
view_volume (CopyAsk group epoch) = 0
view_volume (CopyReport group epoch sender series piece contents) = 0
view_volume (PageAsk group label block point) = 0
view_volume (Page group label sender block point bytes) = 0

-- the step that makes a new recovery, with its messages
abbrev pub begun : Recovery × Vec Message Global → ClientStep
begun (r, messages) = record { made = messages_of messages.items; client = client_of r }

-- the step of a cut with this result, by a recovery with this state of its groups
abbrev pub found_step : ℕ → Found → List ClientGroup → ClientStep
found_step volume found groups = cut_step volume (keeping groups) (log_of_set found.log) (lineage_of found.lineage)

-- the call isn't refused
abbrev pub admitted : Unit {0} → Unit {0} → Unit {0}
admitted u v = u

-- The recovery becomes the defined writer, or is refused as defined and returned unchanged.
abbrev pub Opens : ClientAnswer → Recovery → Result Writer (Fault × Recovery) → Type 0
Opens defined old (Ok w) = defined ≡ Ok (record { made = []; client = writers.client_of w })
Opens defined old (Err (fault, back)) = (defined ≡ Err fault) × (back ≡ old)
