use Rattle.std.proofs.Common.{All, sym, subst}
use Rattle.plan.specs.Common.{all_lent}
use Rattle.cert_search.specs.Places.{IsWork}
use Rattle.cert_search.specs.Settled.{AreOfDeal, HadOnce, EachHad}
use Rattle.cert_search.proofs.Ended.{still_dealt, all_had, all_found}
use Rattle.cert_search.proofs.searching.found_by.Goals as goal

pub settle-requires : goal.settle-requires
settle-requires g c =
    (c.requires.dealt.0, subst (AreOfDeal c.requires.dealt.0) (sym c.in_ok-found.ensures.1) (still_dealt c.args.budget (all_lent c.args.claims.now) c.args.hands.items c.in_ok-works.works.items c.in_ok-works.ensures c.requires.dealt.0 c.requires.dealt.1))

pub returns-clause-found : goal.returns-clause-found
returns-clause-found g c =
    subst (All (IsWork c.args.budget (all_lent c.args.claims.now))) (sym c.in_ok-found.ensures.0) (all_found c.args.budget (all_lent c.args.claims.now) c.args.hands.items c.in_ok-works.works.items c.in_ok-works.ensures)

pub returns-clause-had : goal.returns-clause-had
returns-clause-had g c =
    all_had c.args.budget (all_lent c.args.claims.now) c.args.hands.items c.in_ok-works.works.items c.in_ok-works.ensures (subst HadOnce c.in_ok-found.ensures.1 c.in_ok-settle.ensures.once) (subst EachHad c.in_ok-found.ensures.1 c.in_ok-settle.ensures.each)
