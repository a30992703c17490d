use Rattle.std.proofs.Common.{subst, IfSome}
use Rattle.std.proofs.lemmas.List.Elements.{All-pop}
use Rattle.cert_search.specs.Places.{IsWork}
use Rattle.cert_search.proofs.filling.fill_all.Goals as goal

pub loop-founds-preserved : goal.loop-founds-preserved
loop-founds-preserved c = λ budget claims all are.
    let is_work = IsWork budget claims in
    let before = c.loop-founds.invariant budget claims all are in
    let parted = All-pop is_work c.loop-founds.found.items c.pop.new.self.items c.pop.result c.pop.ensures.items before.0 in
    (parted.0, c.fill_each.ensures budget claims (subst (λ r. IfSome r is_work) c.in-Some.is parted.1) before.1)

pub returns : goal.returns
returns c = λ budget claims all are. (c.loop-founds.invariant budget claims all are).1
