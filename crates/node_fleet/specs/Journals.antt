-- The journal of a closed fleet as seen by contracts.
use Rattle.std.specs.Prelude.{List}
use Rattle.std.specs.declared.sync.ledger.Ledger.{Ghosts as LedgerGhosts}
use Rattle.volume_model.specs.Journal.{Entry}
use Rattle.journal.specs.declared.row.Site.{Ghosts as SiteGhosts}
use Rattle.journal.specs.Passes.{journal_of}
use Rattle.node_fleet.specs.declared.closed.Journal.{Journal}

-- the journal's entries, in order
abbrev pub entries_in : {X : Type 0} {s : SiteGhosts X} {l : LedgerGhosts X} → Journal X s l → List Entry
entries_in j = journal_of j.log
