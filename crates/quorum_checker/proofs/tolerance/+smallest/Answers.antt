use Rattle.quorum_checker.proofs.Losses.{joined_of, if_some}
use Rattle.quorum_checker.proofs.tolerance.+smallest.Goals as goal
use Rattle.std.proofs.Common.{rules}

pub returns-clause-least : goal.returns-clause-least
returns-clause-least g t c = search (rules, c.with-more.ensures.gone, c.with-more.ensures.size, c.in_ok-found.ensures.least, c.smallest-2.ensures.least, if_some, joined_of)
