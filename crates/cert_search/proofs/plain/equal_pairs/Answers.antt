use Rattle.std.proofs.Common.{◌+◌, ◌∷◌, [], ◌++◌, length, drop, ap, ◌∙◌, sym, arith, length-append}
use Rattle.quorum_expr.specs.Common.{formula_of, formulas_of}
use Rattle.cert_search.specs.Plain.{equal_pairs}
use Rattle.refutation.proofs.Loop.{next}
use Rattle.cert_search.proofs.Pairs.{kept, paired}
use Rattle.cert_search.proofs.plain.equal_pairs.Goals.{in-Some+in_ok-push, in_default}
use Rattle.cert_search.proofs.plain.equal_pairs.Goals as goal

pub loop-i-preserved : goal.loop-i-preserved
loop-i-preserved g c =
    let others = formulas_of c.args.others.now in
    let here = ap (λ fs. equal_pairs c.loop-i.i fs others) (next (λ x. formula_of x.1) c.args.of.now c.loop-i.i c.index-of-i.result c.loop-i-test.true c.index-of-i.is) in
    elim c.match-pair_at.branch [
      | in-Some+in_ok-push w ↦
          let more = ap (λ v. v.items) w.pairs-is ∙ w.in_ok-push.ensures.items in
          record {
            pairs = paired _ c.loop-i.pairs.items c.match-pair_at.pairs.items _ _ _ w.in-Some.pair c.loop-i.invariant.pairs here (sym c.pair_at.ensures ∙ w.in-Some.is) more;
            few = omega (arith, ap length more, length-append c.loop-i.pairs.items (w.in-Some.pair ∷ []), c.loop-i.invariant.few);
          }
      | in_default w ↦
          let same = ap (λ v. v.items) w.pairs-is in
          record {
            pairs = kept _ _ _ _ _ c.loop-i.invariant.pairs here (sym c.pair_at.ensures ∙ w.in_default.is) ∙ ap (λ xs. xs ++ equal_pairs (c.loop-i.i + 1) (formulas_of (drop (c.loop-i.i + 1) c.args.of.now)) others) (sym same);
            few = omega (arith, ap length same, c.loop-i.invariant.few);
          }
    ]
