use Rattle.std.proofs.Common.{rules}
use Rattle.journal.proofs.Growing.{extends}
use Rattle.journal.proofs.history.Opened.extend.Goals as goal

pub load-requires : goal.load-requires
load-requires g c = (search rules, search rules, extends _ _ _ g.N.Named.entry (search rules))
