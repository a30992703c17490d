use Rattle.cert_search.proofs.Tables.{hands_more}
use Rattle.cert_search.proofs.dealing.hands_of.Goals as goal

pub loop-others-preserved : goal.loop-others-preserved
loop-others-preserved c =
    let t =
    hands_more c.loop-others.hands.items c.push.new.self.items _ _ _ _ c.in-Some-next.own c.in-Some.others c.new.result _ c.in_ok-push.ensures.items c.in-Some-next.ensures.items c.in-Some.ensures.steps.0 c.new.ensures c.loop-others.invariant.count c.loop-others.invariant.hands in
    record { count = t.0; hands = t.1 }
