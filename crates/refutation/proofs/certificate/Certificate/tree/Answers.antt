use Rattle.refutation.proofs.Walks.{HasLimits-certificate}
use Rattle.refutation.specs.Certificate.{certificate_rule}
use Rattle.refutation.proofs.certificate.Certificate.tree.Goals as goal

pub returns-clause-limits : goal.returns-clause-limits
returns-clause-limits g c = HasLimits-certificate (certificate_rule c.args.self.now) c.args.self.now.within
