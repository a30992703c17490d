use Rattle.std.proofs.Common.{length, arith}
use Rattle.plan.specs.Common.{all_lent}
use Rattle.cert_search.specs.Settled.{AreOfOneDeal}
use Rattle.cert_search.proofs.Ended.{dealt_together, deal_at}
use Rattle.cert_search.proofs.searching.searched.Goals as goal

pub found_by-requires-clause-dealt : goal.found_by-requires-clause-dealt
found_by-requires-clause-dealt g c =
    let hands = c.in_ok-hands.hands.items in
    let claims = length c.args.claims.now in
    let given : AreOfOneDeal hands = (claims, dealt_together claims c.args.workers hands (omega (arith, c.in_ok-hands.ensures.count)) c.in_ok-hands.ensures.dealt (deal_at claims c.args.workers hands c.in_ok-hands.ensures.same) c.in_ok-hands.ensures.shared) in
    λ κs within. given

pub answers-requires : goal.answers-requires
answers-requires g c =
    c.fill_all.ensures c.args.budget (all_lent c.args.claims.now) c.in_ok-found.ensures.found (c.in_ok-places.ensures c.args.budget)
