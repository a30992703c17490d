use Rattle.cert_search.specs.NamedViews.{own_named}
use Rattle.cert_search.proofs.Claims.{learns, owner_held}
use Rattle.cert_search.proofs.own.Own.learn.Goals as goal

pub len_as-requires : goal.len_as-requires
len_as-requires c = learns _ _ c.args.self.now.first (owner_held (own_named c.args.self.now).1 c.args.self.now.owner)
