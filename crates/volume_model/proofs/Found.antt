-- What was found, and the newest lineage
use Rattle.std.proofs.Common.{List}
use Rattle.volume_model.specs.Common.{IsIn, Redo, Lineage, Contents, IsReportedLive, FoundIsReported, NewestIsNewest}
use Rattle.volume_model.specs.Lineage.{found_in}
use Rattle.volume_model.proofs.Records.{found_in-from, found_in-has, newest-most, newest-of}

reported : (lineage : Lineage) (reports : List Contents) (r : Redo) → IsIn r (found_in lineage reports) → IsReportedLive lineage reports r
reported lineage reports r i = let (c, j, k, l) = found_in-from lineage reports r i in record { report = c; there = j; holds = k; live = l }

pub found_is_reported : FoundIsReported
found_is_reported lineage reports r = (reported lineage reports r, λ h. found_in-has lineage reports h.report r h.there h.holds h.live)

pub newest_is_newest : NewestIsNewest
newest_is_newest reports c i = let (d, j, e) = newest-of reports c i in record { report = d; there = j; its_own = e; last = newest-most reports }
