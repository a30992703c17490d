use Rattle.std.proofs.Common.{◌≡◌, ◌∙◌, ap, sym, subst, Some, arith, OnSome}
use Rattle.quorum_expr.specs.Common.{data_of}
use Rattle.quorum_expr.proofs.Sorted.{here_in_order}
use Rattle.plan.specs.Puts.{Puts}
use Rattle.plan.proofs.Known.{two_keys, known-two}
use Rattle.plan.proofs.Putting.{then_put, closed}
use Rattle.plan.proofs.expressions.close_threshold.Goals as goal
use Rattle.std.proofs.Common.{rules}

pub returns-then-keys-eq3 : goal.returns-then-keys-eq3
returns-then-keys-eq3 c = search (rules, c.if-keys-eq3.true, c.close_weighted.ensures, OnSome)

pub returns : goal.returns
returns c =
    then_put c.close_object.result c.close_object.ensures
    (λ t start x keys.
    let d = data_of c.args.node.now in
    let two : c.args.keys ≡ 2 = omega arith in
    let same = known-two d x.k x.of (here_in_order c.args.node.now.element c.args.node.now.readable) (sym (ap Some two) ∙ keys) x.k_is x.of_is in
    subst (λ y. Puts y start c.close_object.new.writer) (sym same) (closed (two_keys x.k x.of) start c.args.writer.now c.close_object.new.writer x.opens t))
