-- A writer's client, from its parts.
use Rattle.std.proofs.Common.{◌≡◌, ◌∙◌, List, [], ap}
use Rattle.volume_model.specs.Common.{Redo, Lineage, ClientGroup, Writing, added}
use Rattle.volume_model.specs.Client.{Client}
use Rattle.redo_record.specs.declared.record_set.RecordSet.{RecordSet}
use Rattle.redo_record.specs.Common.{packets_of, records_of}
use Rattle.writer_core.specs.Log.{log_in, packets_in}
use Rattle.writer_core.specs.Logs.{log_of, log_of_set}
use Rattle.writer_core.specs.declared.log.Log.{Log}
use Rattle.writer_core.proofs.Joined.{log_of-set}

-- the client with these parts
abbrev client_with : List ClientGroup → Lineage → List Redo → List Redo → Client
client_with groups lineage found log = record { stage = Writing; groups = groups; lineage = lineage; found = found; log = log }

pub same-parts : (groups other_groups : List ClientGroup) (lineage other_lineage : Lineage) (found other_found log other_log : List Redo) → groups ≡ other_groups → lineage ≡ other_lineage → found ≡ other_found → log ≡ other_log
    → client_with groups lineage found log ≡ client_with other_groups other_lineage other_found other_log
same-parts groups other_groups lineage other_lineage found other_found log other_log g l f h = λ i. record { stage = Writing; groups = g i; lineage = l i; found = f i; log = h i }

-- a log with no record behind what was found is what was found
pub begun-is : (log : Log) (found : RecordSet) → packets_in log ≡ packets_of found → log_in log ≡ log_of_set found
begun-is log found same = ap log_of same ∙ log_of-set found

-- and none where nothing was found
pub set-none : (set : RecordSet) → records_of set ≡ [] → log_of_set set ≡ []
set-none set none = ap (λ (rs : List Redo). added rs []) none
