-- The cut of a log, computed record by record.
use Rattle.std.specs.Prelude.{◌≡◌, ℕ, ◌<◌, true, ◌||◌, ◌==◌, List, [], ◌∷◌, map}
use Rattle.volume_model.specs.Common.{IsIn, added, Redo, cut_of, last_lsn}
use Rattle.redo_record.specs.declared.«record».Record.{Record}
use Rattle.redo_record.specs.Common.{redo_of}
use Rattle.writer_core.specs.Logs.{is_growing}
use Rattle.recovery.specs.Chains.{leads}
use Rattle.recovery.specs.GroundedLsns.{is_grounded}
use Rattle.recovery.specs.declared.cut_reader.CutReader.{CutReader}

-- the log of the model for a list of records
abbrev pub log_of_records : List Record → List Redo
log_of_records records = added (map redo_of records) []

-- for a log whose LSNs grow, and whose records link to smaller LSNs: the LSNs from which the chain leads down to 0, and
-- the cut
pub record IsCutOf (reader : CutReader) (log : List Redo) : Type 0 where
  pub growing : is_growing log ≡ true
  pub back : (r : Redo) → IsIn r log → r.prev_volume < r.lsn
  pub grounded : (n : ℕ) → (n == 0 || is_grounded reader.grounded n) ≡ leads log n
  pub cut : reader.cut ≡ cut_of log

-- if the old state is that of a log, the new one is that of the log with this record appended
abbrev pub ReadsOneMore : CutReader → CutReader → Redo → Type 0
ReadsOneMore old new r = (log : List Redo) → IsCutOf old log → last_lsn log < r.lsn → IsCutOf new (r ∷ log)
