use Rattle.quorum_checker.proofs.Apart.{is_witness}
use Rattle.quorum_checker.proofs.deciding.apart.Goals as goal
use Rattle.std.proofs.Common.{rules}

pub returns-else-shows-clause-known : goal.returns-else-shows-clause-known
returns-else-shows-clause-known g c = search (rules, c.shows.ensures.found, c.difference.ensures, c.members_named.ensures, c.difference-2.ensures, c.members_named-2.ensures, c.if-shows.false, is_witness)
