-- How many messages the step of a client makes at most.
use Rattle.std.specs.Prelude.{ℕ, ◌+◌, ◌/◌, ◌≤◌, List, [], ◌∷◌, length, Ok, Err}
use Rattle.volume_model.specs.Redo.{Redo}
use Rattle.volume_model.specs.Lineage.{Contents}
use Rattle.volume_model.specs.Pieces.{most_in_piece}
use Rattle.volume_model.specs.Plan.{Plan}
use Rattle.volume_model.specs.Message.{Message}
use Rattle.volume_model.specs.Client.{Client, ClientAnswer}
use Rattle.volume_model.specs.ClientWriter.{Change, issued, page_asked, resent}
use Rattle.volume_model.specs.ClientRecovery.{reported, live_reported, log_reported, cut_client}
use Rattle.volume_model.specs.ClientMessages.{taken}
use Rattle.volume_model.specs.Leading.{VolumeLinksFall}

-- the step makes at most this many messages, if it isn't refused
abbrev pub Few : ℕ → ClientAnswer → Type 0
Few most (Err fault) = Unit {0}
Few most (Ok step) = length step.made ≤ most

-- the greatest number of Install pieces of a log found: one a group, and one for each 256 records
abbrev pub most_installs : ℕ → List Redo → ℕ
most_installs groups found = groups + length found / most_in_piece

-- the number of records in all contents; a record counts as often as it is held
abbrev pub records_in : List Contents → ℕ
records_in [] = 0
records_in (contents ∷ rest) = length contents.records + records_in rest

-- how many records the reports hold
abbrev pub records_said : Client → ℕ
records_said client = records_in (reported client)

-- A transaction makes at most one message for each change, a Take or a Cut at most most_installs, a Resend or a Read
-- one. The log found has no more records than the reports hold, if each record's prev_volume is less than its LSN
pub record StepsAreFew : Type 0 where
  pub issue : (plan : Plan) (volume : ℕ) (client : Client) (changes : List Change) → Few (length changes)
      (issued plan volume client changes)
  pub take : (plan : Plan) (volume : ℕ) (client : Client) (message : Message)
      → Few (most_installs plan.groups client.found) (taken plan volume client message)
  pub cut : (plan : Plan) (volume : ℕ) (client : Client)
      → Few (most_installs (length client.groups) (log_reported client)) (cut_client plan volume client)
  pub found : (client : Client) → VolumeLinksFall (live_reported client) → length (log_reported client) ≤ records_said
      client
  pub resend : (volume : ℕ) (client : Client) (lsn : ℕ) → Few 1 (resent volume client lsn)
  pub read : (volume : ℕ) (client : Client) (group block : ℕ) → Few 1 (page_asked volume client group block)
