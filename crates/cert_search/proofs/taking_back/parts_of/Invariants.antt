use Rattle.std.proofs.Common.{◌≡◌, ◌++◌, map}
use Rattle.std.specs.Vec.Iter.{into_iter_items}
use Rattle.cert_search.specs.NamedViews.{own_named, handle_named}
use Rattle.cert_search.specs.Settled.{hand_own, all_others}
use Rattle.cert_search.proofs.taking_back.parts_of.Given as goal

abbrev pub invariant-loop-hand : goal.invariant-loop-hand
invariant-loop-hand l = record {
  owns : map own_named l.owns.items ++ map hand_own (into_iter_items l.hand-iterator) ≡ map hand_own l.fn.hands.items;
  others : map handle_named l.handles.items ++ all_others (into_iter_items l.hand-iterator) ≡ all_others l.fn.hands.items;
}
