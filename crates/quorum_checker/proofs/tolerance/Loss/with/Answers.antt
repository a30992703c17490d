use Rattle.std.proofs.Common.{ap, arith}
use Rattle.quorum_checker.specs.Tolerance.{count_of}
use Rattle.quorum_checker.proofs.Losses.{count_put}
use Rattle.quorum_checker.proofs.tolerance.Loss.with.Goals as goal

pub returns-clause-counted : goal.returns-clause-counted
returns-clause-counted c = omega (arith, count_put c.args.self.now.gone c.args.member, ap count_of c.with.ensures, c.requires.counted)
