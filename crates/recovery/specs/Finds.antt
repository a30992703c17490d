-- The result of a recovery's cut.
use Rattle.std.specs.Prelude.{◌≡◌, Bool, true, false, List}
use Rattle.volume_model.specs.declared.fault.Fault.{Fault}
use Rattle.volume_model.specs.declared.fault.Fault.TheVariants.{LsnSpent}
use Rattle.volume_model.specs.Common.{Redo, last_cut, newest, ClientGroup}
use Rattle.volume_model.specs.Lineage.{found_in}
use Rattle.volume_model.specs.Client.{Client}
use Rattle.lineage.specs.Lineage.{lineage_of}
use Rattle.writer_core.specs.Logs.{log_of_set}
use Rattle.recovery.specs.declared.found.Found.{Found}
use Rattle.recovery.specs.Reported.{reports_in}

-- The client has this log found, this cut and this lineage.
pub record IsFindOf (client : Client) (found : Found) : Type 0 where
  pub log_is : log_of_set found.log ≡ client.found
  pub cut_is : found.cut ≡ last_cut client.lineage
  pub lineage_is : lineage_of found.lineage ≡ client.lineage

-- Both have the same log, cut and lineage.
pub record IsSameFind (found other : Found) : Type 0 where
  pub same_log : log_of_set other.log ≡ log_of_set found.log
  pub same_cut : other.cut ≡ found.cut
  pub same_lineage : lineage_of other.lineage ≡ lineage_of found.lineage

-- the records of the groups' reports that are live in the newest lineage
abbrev pub live_records : List ClientGroup → List Redo
live_records groups = found_in (newest (reports_in groups)) (reports_in groups)

-- LsnSpent: that the recovery's own LSNs would begin above the greatest one is found only after the log, which
-- allocates
abbrev pub is_spent : Fault → Bool
is_spent LsnSpent = true
is_spent fault = false
