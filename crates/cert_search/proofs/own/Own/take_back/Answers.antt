use Rattle.std.proofs.Common.{subst, sym}
use Rattle.crossbeam_deque.specs.Handles.{IsPassOf}
use Rattle.cert_search.specs.NamedViews.{own_named}
use Rattle.cert_search.proofs.Claims.{merges, owner_out}
use Rattle.cert_search.proofs.own.Own.take_back.Goals as goal

pub absorb-requires-clause-table : goal.absorb-requires-clause-table
absorb-requires-clause-table c = subst (λ d. IsPassOf d c.args.steal_handle.pass) (sym c.requires) c.args.steal_handle.of

pub absorb-requires-clause-rule : goal.absorb-requires-clause-rule
absorb-requires-clause-rule c = let owner = owner_out (own_named c.args.self.now).1 c.args.self.now.owner in merges _ _ _ _ owner.0 c.args.self.now.first owner.1 c.args.steal_handle.guest
