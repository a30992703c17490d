use Rattle.std.proofs.Common.{rules}
use Rattle.refutation.proofs.Pairs.{pair_of-two}
use Rattle.refutation.proofs.reading.pair.Goals as goal

pub returns-in_err-first-clause-given : goal.returns-in_err-first-clause-given
returns-in_err-first-clause-given g c = rw (pair_of-two (g.N.Node.means c.args.value.now)) (search rules)

pub returns-in_err-a-clause-given : goal.returns-in_err-a-clause-given
returns-in_err-a-clause-given g c = rw (pair_of-two (g.N.Node.means c.args.value.now)) (search rules)

pub returns-in_err-b-clause-given : goal.returns-in_err-b-clause-given
returns-in_err-b-clause-given g c = rw (pair_of-two (g.N.Node.means c.args.value.now)) (search rules)

pub returns-clause-given : goal.returns-clause-given
returns-clause-given g c = rw (pair_of-two (g.N.Node.means c.args.value.now)) (search rules)
