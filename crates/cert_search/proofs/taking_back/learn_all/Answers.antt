use Rattle.std.proofs.Common.{◌≡◌, ◌<◌, ℕ, length, set, Some, sym, ap, ◌∙◌, subst, arith, below_more, slice_get}
use Rattle.cert_search.specs.declared.deque.DequeView.{DequeView}
use Rattle.cert_search.specs.declared.own.Own.{Own}
use Rattle.cert_search.specs.Deque.{Settles}
use Rattle.cert_search.specs.NamedViews.{own_named}
use Rattle.cert_search.specs.Settled.{own_views}
use Rattle.cert_search.proofs.Rows.{map_set, map_len, map_get, set_same, within}
use Rattle.cert_search.proofs.taking_back.learn_all.Goals as goal

pub loop-d-preserved : goal.loop-d-preserved
loop-d-preserved c =
    let inv = c.loop-d.invariant in
    let owns = c.loop-d.owns.items in
    let first = own_views c.args.owns.now.items in
    let d = c.loop-d.d in
    let old = c.index_mut-own.result.now in
    let view = λ (o : Own). (own_named o).1 in
    let lt : d < length owns = omega (arith, inv.count) in
    let at : slice_get (own_views owns) d ≡ Some (view old) = map_get view owns d old lt ∙ ap (λ y. Some (view y)) (sym c.index_mut-own.ensures.value) in
    record {
      count = inv.count;
      same = map_set view owns d c.learn.new.self ∙ ap (λ s. set (own_views owns) d s.1) c.learn.ensures.same ∙ set_same (own_views owns) d (view old) at ∙ inv.same;
      learned = λ k v lt' e.
          below_more (λ (n : ℕ). (u : DequeView) → slice_get first n ≡ Some u → Settles u) d
          (λ n below u f. inv.learned n u below f)
          (λ u f. let here = ap (λ l. slice_get l d) (sym inv.same) ∙ at in let is : view old ≡ u = cc (here, f) in subst Settles is c.learn.ensures.settles)
          k lt' v e;
    }

pub returns : goal.returns
returns c = λ d v e.
    let lt = within (own_views c.args.owns.now.items) d v e in
    let long = map_len (λ (o : Own). (own_named o).1) c.args.owns.now.items in
    c.loop-d.invariant.learned d v (omega (arith, lt, long)) e
