use Rattle.std.proofs.Common.{subst, IfSome}
use Rattle.std.proofs.lemmas.List.Elements.{All-pop}
use Rattle.cert_search.specs.Places.{IsFound}
use Rattle.cert_search.proofs.filling.fill_each.Goals as goal

pub loop-found-preserved : goal.loop-found-preserved
loop-found-preserved c = λ budget claims work are.
    let is_found = IsFound budget claims in
    let before = c.loop-found.invariant budget claims work are in
    let parted = All-pop is_found c.loop-found.founds.items c.pop.new.self.items c.pop.result c.pop.ensures.items before.0 in
    (parted.0, c.fill.ensures budget claims (subst (λ r. IfSome r is_found) c.in-Some.is parted.1) before.1)

pub returns : goal.returns
returns c = λ budget claims work are. (c.loop-found.invariant budget claims work are).1
