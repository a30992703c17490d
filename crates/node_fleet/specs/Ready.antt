-- What holds before a step under both locks.
use Rattle.std.specs.Prelude.{◌≡◌}
use Rattle.std.specs.declared.sync.ledger.Ledger.{Ghosts as LedgerGhosts}
use Rattle.volume_model.specs.Common.{Agree, last_of, world_at}
use Rattle.journal.specs.declared.row.Site.{Ghosts as SiteGhosts}
use Rattle.journal.specs.declared.log.Log.{Log}
use Rattle.journal.specs.declared.cursor.ActorCursor.{ActorCursor}
use Rattle.journal.specs.declared.pass.Pass.{Pass}
use Rattle.journal.specs.Passes.{journal_of, cursor_number, marked, seen_at, world_of, HasNoteRoom, HasPlace, HasStepRoom, SeesAll}
use Rattle.node_fleet.specs.declared.halt.Halt.{Halt}
use Rattle.node_fleet.specs.declared.halt.Halt.TheVariants.{StaleCursor, Refused}
use Rattle.volume_model.specs.declared.fault.Fault.TheVariants.{NoMemory}

-- The cursor is at the actor's last entry, the pass has seen the whole journal, and there is room for a step and a
-- note.
pub record IsReadyToStep {X : Type 0} {s : SiteGhosts X} {l : LedgerGhosts X} (cursor : ActorCursor X s l)
    (log : Log X s l) (pass : Pass X s) : Type 0 where
  pub agree : Agree (marked cursor) (world_at s.plan (seen_at cursor)) (world_of log)
  pub last : cursor_number cursor ≡ last_of (marked cursor) (journal_of log)
  pub place : HasPlace log (marked cursor)
  pub settled : SeesAll pass log
  pub step : HasStepRoom pass
  pub note : HasNoteRoom pass

-- nothing was attempted, since the cursor is stale or memory ran out
abbrev pub IsEarly : Halt → Type 0
IsEarly StaleCursor = Unit {0}
IsEarly (Refused NoMemory) = Unit {0}
IsEarly (Refused fault) = ⊥

-- if the journal has a place for the actor, the actor's last entry isn't that of the cursor
abbrev pub IsStale : {X : Type 0} {s : SiteGhosts X} {l : LedgerGhosts X} → ActorCursor X s l → Log X s l → Type 0
IsStale cursor log = HasPlace log (marked cursor) → cursor_number cursor ≡ last_of (marked cursor) (journal_of log) → ⊥
