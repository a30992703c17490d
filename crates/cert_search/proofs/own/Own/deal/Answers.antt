use Rattle.std.proofs.Common.{◌<◌}
use Rattle.cert_search.proofs.Claims.{deals, owner_held}
use Rattle.cert_search.proofs.Rows.{all_at}
use Rattle.cert_search.specs.NamedViews.{own_named}
use Rattle.cert_search.proofs.own.Own.deal.Goals as goal

pub push_as-requires-clause-pushes : goal.push_as-requires-clause-pushes
push_as-requires-clause-pushes c = deals _ _ _ c.requires.deals (owner_held (own_named c.args.self.now).1 c.args.self.now.owner) c.requires.unended (all_at (λ n. n < c.args.claim) _ c.requires.above)
