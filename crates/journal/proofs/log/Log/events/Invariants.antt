use Rattle.std.proofs.Common.{◌≡◌, take}
use Rattle.volume_model.specs.Common.{events}
use Rattle.world.specs.Events.{events_of}
use Rattle.journal.specs.Passes.{journal_of}
use Rattle.journal.proofs.log.Log.events.Given as goal

abbrev pub invariant-loop-cell : goal.invariant-loop-cell
invariant-loop-cell g l = events_of l.made.items ≡ take l.cell (events (journal_of l.self))
