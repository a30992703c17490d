-- Views of a history and of its prefixes for contracts.
use Rattle.std.specs.Prelude.{List}
use Rattle.atomic_table.specs.Seated.{TableId}
use Rattle.journal.specs.declared.entry.Entry.{Entry}
use Rattle.journal.specs.declared.history.Opened.{Opened}
use Rattle.journal.specs.declared.history.LogPrefix.{LogPrefix}

-- the identity of a history
abbrev pub book_of : Opened → TableId
book_of h = h.table.shared.table_id

-- the entries of a history, in order
abbrev pub log_of : Opened → List Entry
log_of h = h.seat.me.0.log

-- the identity of a prefix's history
abbrev pub front_book : LogPrefix → TableId
front_book f = f.seat.table_id

-- the entries of a prefix, in order
abbrev pub front_log : LogPrefix → List Entry
front_log f = f.seat.me.0.log
