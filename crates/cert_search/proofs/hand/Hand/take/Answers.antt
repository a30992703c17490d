use Rattle.std.proofs.Common.{refl, ap}
use Rattle.cert_search.specs.declared.deque.DequeView.{DequeView}
use Rattle.cert_search.specs.Deque.{out_of}
use Rattle.cert_search.specs.NamedViews.{own_named, own_calm, calms}
use Rattle.cert_search.proofs.Rounds.{takes_claim, gives, calms_same, faces_stay, takes_any, own_claim, own_ended, none_left, same_deal, calm_gets, calm_ends}
use Rattle.cert_search.proofs.hand.Hand.take.Goals as goal

pub returns-in-Some-clause-some : goal.returns-in-Some-clause-some
returns-in-Some-clause-some g c = takes_claim _ _ _ (0, own_calm c.args.self.now.own, own_calm c.take.new.self, refl, refl, calm_gets (own_named c.args.self.now.own) (own_named c.take.new.self) _ c.in-Some.ensures)

pub returns-in-Some-clause-own_first : goal.returns-in-Some-clause-own_first
returns-in-Some-clause-own_first g c = λ claims workers deal other. absurd (other (own_claim c.args.self.now c.in-Some.claim c.take.new.self c.in-Some.ensures claims workers deal))

pub returns-in-Some-clause-deal : goal.returns-in-Some-clause-deal
returns-in-Some-clause-deal g c =
    same_deal _ _ (faces_stay (calms c.args.self.now.own c.args.self.now.others.items) c.in-Some.claim (calms c.take.new.self c.args.self.now.others.items) (0, own_calm c.args.self.now.own, own_calm c.take.new.self, refl, refl, calm_gets (own_named c.args.self.now.own) (own_named c.take.new.self) _ c.in-Some.ensures)) (ap (λ (v : DequeView). out_of v.holder) c.in-Some.ensures.1.0)

pub returns-clause-some : goal.returns-clause-some
returns-clause-some g c = takes_any _ _ c.steal_any.result (gives c.args.self.now c.take.new.self c.steal_any.new.others.items c.steal_any.result (calm_ends (own_named c.args.self.now.own) (own_named c.take.new.self) c.in_default.ensures) c.steal_any.ensures.some)

pub returns-clause-own_first : goal.returns-clause-own_first
returns-clause-own_first g c = own_ended c.args.self.now (record { own = c.take.new.self; others = c.steal_any.new.others }) c.steal_any.result c.in_default.ensures

pub returns-clause-deal : goal.returns-clause-deal
returns-clause-deal g c =
    same_deal _ _ (calms_same c.args.self.now c.take.new.self c.steal_any.new.others.items c.steal_any.result (calm_ends (own_named c.args.self.now.own) (own_named c.take.new.self) c.in_default.ensures) c.steal_any.ensures.some c.steal_any.ensures.same) (ap (λ (v : DequeView). out_of v.holder) c.in_default.ensures.1)

pub returns-clause-none : goal.returns-clause-none
returns-clause-none g c = none_left c.args.self.now _ c.steal_any.result (returns-clause-deal g c) c.in_default.ensures c.steal_any.ensures.none c.steal_any.ensures.same
