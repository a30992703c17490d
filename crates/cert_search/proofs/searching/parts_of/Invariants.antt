use Rattle.std.proofs.Common.{◌≡◌, ◌++◌, map}
use Rattle.std.specs.Vec.Iter.{into_iter_items}
use Rattle.cert_search.proofs.searching.parts_of.Given as goal

abbrev pub invariant-loop-worked : goal.invariant-loop-worked
invariant-loop-worked l = record {
  found : l.found.items ++ map (λ w. w.founds) (into_iter_items l.worked-iterator) ≡ map (λ w. w.founds) l.fn.works.items;
  hands : l.hands.items ++ map (λ w. w.hand) (into_iter_items l.worked-iterator) ≡ map (λ w. w.hand) l.fn.works.items;
}
