use Rattle.std.proofs.Common.{ap, sym, ◌∙◌}
use Rattle.cert_search.proofs.Claims.{takes, guest_held}
use Rattle.cert_search.specs.NamedViews.{NamedView, handle_named}
use Rattle.cert_search.proofs.steal_handle.StealHandle.steal.Goals as goal

pub steal_as-requires-clause-takes : goal.steal_as-requires-clause-takes
steal_as-requires-clause-takes g c = takes _ _ (guest_held (handle_named c.loop.self).1 c.loop.self.guest) (ap (λ (s : NamedView). s.1.ended) c.loop.invariant ∙ sym c.args.self.now.at_end ∙ c.if-self.false)
