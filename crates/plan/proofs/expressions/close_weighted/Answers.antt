use Rattle.std.proofs.Common.{sym, subst, refl, codes}
use Rattle.quorum_expr.specs.Common.{data_of}
use Rattle.quorum_expr.proofs.Sorted.{here_in_order}
use Rattle.plan.specs.Puts.{Puts}
use Rattle.plan.proofs.Known.{two_keys, three_keys, known-three}
use Rattle.plan.proofs.Putting.{then_put, one_more, closed}
use Rattle.plan.proofs.expressions.close_weighted.Goals as goal

pub returns : goal.returns
returns c =
    then_put c.close_object.result c.close_object.ensures
    (λ t start x keys.
    let d = data_of c.args.node.now in
    let ws = data_of c.in_ok-weights.weights in
    let same = known-three d x.k x.of ws (here_in_order c.args.node.now.element c.args.node.now.readable) keys x.k_is x.of_is c.in_ok-weights.ensures in
    let more = one_more (two_keys x.k x.of) (codes "weights") ws start c.args.writer.now c.put_wholes.new.writer refl x.opens (record { between = c.put_key.new.writer; key = c.in_ok-put_key.ensures; value = c.in_ok-put_wholes.ensures }) in
    subst (λ y. Puts y start c.close_object.new.writer) (sym same) (closed (three_keys x.k x.of ws) start c.put_wholes.new.writer c.close_object.new.writer more t))
