use Rattle.plan.specs.Common.{all_lent}
use Rattle.cert_search.specs.Places.{IsFound}
use Rattle.cert_search.proofs.Places.{added}
use Rattle.cert_search.proofs.working.add.Goals as goal

pub returns : goal.returns
returns g c = added (IsFound c.args.budget (all_lent c.args.claims.now)) c.args.founds.now.items c.push.new.self.items c.in-Some.found _ c.push.ensures.items c.requires c.in-Some.ensures
