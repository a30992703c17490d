use Rattle.cert_search.proofs.Claims.{enters, owner_out}
use Rattle.cert_search.specs.NamedViews.{own_named}
use Rattle.cert_search.proofs.own.Own.steal_handle.Goals as goal

pub another-pass-requires : goal.another-pass-requires
another-pass-requires c = let owner = owner_out (own_named c.args.self.now).1 c.args.self.now.owner in enters _ _ owner.0 c.args.self.now.first owner.1
