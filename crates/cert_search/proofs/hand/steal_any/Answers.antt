use Rattle.std.proofs.Common.{◌≡◌, ◌<◌, ℕ, map, length, set, get_or, true, Some, sym, ap, ◌∙◌, arith, below_more, slice_get}
use Rattle.cert_search.specs.declared.deque.DequeView.{DequeView}
use Rattle.cert_search.specs.NamedViews.{NamedView, handle_named, handle_calm}
use Rattle.cert_search.proofs.Rows.{map_set, map_len, map_get, set_same, set_other, set_at, all_of}
use Rattle.cert_search.proofs.Rounds.{calm_gets, calm_ends}
use Rattle.cert_search.proofs.hand.steal_any.Goals as goal

pub returns-in-Some-clause-some : goal.returns-in-Some-clause-some
returns-in-Some-clause-some g c =
    let inv = c.loop-i.invariant in
    let xs = c.loop-i.others.items in
    let i = c.loop-i.i in
    let old = c.index_mut-other.result.now in
    let now = c.steal.new.self in
    let lt : i < length xs = omega arith in
    let at = ap (λ l. slice_get l i) (sym inv.same) ∙ map_get handle_calm xs i old lt ∙ ap (λ r. Some (handle_calm r)) (sym c.index_mut-other.ensures.value) in
    (i, handle_calm old, handle_calm now, at, map_set handle_calm xs i now ∙ ap (λ l. set l i (handle_calm now)) inv.same, calm_gets (handle_named old) (handle_named now) _ c.in-Some.ensures)

pub loop-i-preserved : goal.loop-i-preserved
loop-i-preserved g c =
    let inv = c.loop-i.invariant in
    let xs = c.loop-i.others.items in
    let first = map handle_calm c.args.others.now.items in
    let i = c.loop-i.i in
    let old = c.index_mut-other.result.now in
    let now = c.steal.new.self in
    let s = c.in_default.ensures in
    let lt : i < length xs = omega arith in
    let at = ap (λ l. slice_get l i) (sym inv.same) ∙ map_get handle_calm xs i old lt ∙ ap (λ r. Some (handle_calm r)) (sym c.index_mut-other.ensures.value) in
    let there = map_get handle_named xs i old lt in
    record {
      same = map_set handle_calm xs i now ∙ ap (λ l. set l i (handle_calm now)) inv.same ∙ ap (λ v. set first i v) (calm_ends (handle_named old) (handle_named now) s) ∙ set_same first i (handle_calm old) at;
      count = inv.count;
      ended = λ k v lt e.
          let e' = ap (λ l. slice_get l k) (sym (map_set handle_named xs i now)) ∙ e in
          below_more (λ (n : ℕ). (u : NamedView) → slice_get (set (map handle_named xs) i (handle_named now)) n ≡ Some u → u.1.ended ≡ true) i
          (λ n below u f. inv.ended n u below (sym (set_other (map handle_named xs) i n (handle_named now) (λ same. omega (arith, same, below))) ∙ f))
          (λ u f. let is : handle_named now ≡ u = cc (set_at (map handle_named xs) i (handle_named now) (handle_named (get_or xs i old)) there, f) in ap (λ (t : NamedView). t.1.ended) (sym is) ∙ ap (λ (v : DequeView). v.ended) s.1)
          k lt v e';
    }

pub returns-clause-none : goal.returns-clause-none
returns-clause-none g c =
    let now = map handle_named c.loop-i.others.items in
    all_of (λ (u : NamedView). u.1.ended ≡ true) now (λ k v lt e. c.loop-i.invariant.ended k v (let long = map_len handle_named c.loop-i.others.items in omega (arith, long, lt, c.loop-i.invariant.count)) e)
