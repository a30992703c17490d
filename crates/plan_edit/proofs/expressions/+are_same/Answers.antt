use Rattle.std.proofs.Common.{◌≡◌, ◌≤◌, length, ap, sym, ◌∙◌, arith}
use Rattle.volume_model.specs.Common.{at_least}
use Rattle.quorum_expr.specs.Common.{formula_of, weighed}
use Rattle.quorum_expr.proofs.ExprLaws.{formula_of-KOf}
use Rattle.quorum_expr.proofs.Weighed.{weighed-done}
use Rattle.plan_edit.proofs.expressions.+are_same.Goals as goal

pub returns-after-loop-i : goal.returns-after-loop-i
returns-after-loop-i t c =
    let xs = c.as_slice-of.result.now in
    let ys = c.as_slice-others.result.now in
    let i = c.loop-i.i in
    let here : length xs ≤ i = omega (arith, c.loop-i-test.false, c.as_slice-of.ensures.len, c.len.ensures) in
    let there : length ys ≤ i = omega (arith, here, c.if-len.false, c.len.ensures, c.len-else-k-other.ensures, c.as_slice-of.ensures.len, c.as_slice-others.ensures.len) in
    let all : weighed formula_of xs ≡ weighed formula_of ys = c.loop-i.invariant (weighed-done formula_of xs i here ∙ sym (weighed-done formula_of ys i there)) in
    λ _. ap formula_of c.in-KOf.is ∙ formula_of-KOf c.in-KOf.k c.in-KOf.of ∙ ap (λ zs. at_least c.in-KOf.k (weighed formula_of zs)) (sym c.as_slice-of.ensures.value)
    ∙ ap (at_least c.in-KOf.k) all ∙ ap (λ zs. at_least c.in-KOf.k (weighed formula_of zs)) c.as_slice-others.ensures.value
    ∙ ap (λ k. at_least k (weighed formula_of c.in-KOf-right-2.others.items)) c.if-k-other.false
    ∙ sym (ap formula_of c.in-KOf-right-2.is ∙ formula_of-KOf c.in-KOf-right-2.other c.in-KOf-right-2.others)
