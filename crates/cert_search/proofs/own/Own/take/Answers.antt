use Rattle.std.proofs.Common.{ap, sym, ◌∙◌}
use Rattle.cert_search.proofs.Claims.{takes, owner_held}
use Rattle.cert_search.specs.NamedViews.{NamedView, own_named}
use Rattle.cert_search.proofs.own.Own.take.Goals as goal

pub pop_as-requires-clause-fifo : goal.pop_as-requires-clause-fifo
pop_as-requires-clause-fifo g c = λ _. takes _ _ (owner_held (own_named c.loop.self).1 c.loop.self.owner) (ap (λ (s : NamedView). s.1.ended) c.loop.invariant ∙ sym c.args.self.now.at_end ∙ c.if-self.false)
