use Rattle.volume_model.proofs.FoundMessages.{names_before}
use Rattle.journal.specs.Entries.{entries_of}
use Rattle.journal.specs.Tokens.{shown}
use Rattle.journal.proofs.log.Log.replays.Goals as goal

pub returns-clause-before : goal.returns-clause-before
returns-clause-before g c = let log = c.args.self.now in names_before g.L.Site.plan (entries_of (shown log.entries.items)) log.run
