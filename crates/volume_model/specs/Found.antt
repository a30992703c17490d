-- What a recovery finds, stated with the reports.
use Rattle.std.specs.Prelude.{◌≡◌, ◌↔◌, ◌≤◌, true, List}
use Rattle.volume_model.specs.Lists.{IsIn}
use Rattle.volume_model.specs.Redo.{Redo}
use Rattle.volume_model.specs.Lineage.{Lineage, Contents, last_epoch, is_live, newest, found_in}

-- some report has the record, and it is live
pub record IsReportedLive (lineage : Lineage) (reports : List Contents) (r : Redo) : Type 0 where
  pub report : Contents
  pub there : IsIn report reports
  pub holds : IsIn r report.records
  pub live : is_live lineage r.volume r.lsn ≡ true

-- the records found are exactly the live records of all reports
abbrev pub FoundIsReported : Type 0
FoundIsReported = (lineage : Lineage) (reports : List Contents) (r : Redo) → IsIn r (found_in lineage reports) ↔
    IsReportedLive lineage reports r

-- the lineage is that of a report, and no report's last volume epoch is above its own
pub record IsNewestOf (reports : List Contents) (lineage : Lineage) : Type 0 where
  pub report : Contents
  pub there : IsIn report reports
  pub its_own : lineage ≡ report.lineage
  pub last : (other : Contents) → IsIn other reports → last_epoch other.lineage ≤ last_epoch lineage

-- if there is a report, the newest lineage is the newest of them
abbrev pub NewestIsNewest : Type 0
NewestIsNewest = (reports : List Contents) (some_report : Contents) → IsIn some_report reports → IsNewestOf reports
    (newest reports)
