use Rattle.std.proofs.Common.{◌≡◌, ℕ, map, Some, slice_get}
use Rattle.std.specs.Vec.Iter.{into_iter_items}
use Rattle.cert_search.specs.declared.deque.DequeView.{DequeView}
use Rattle.cert_search.specs.NamedViews.{handle_named}
use Rattle.cert_search.specs.Dealing.{names_in}
use Rattle.cert_search.specs.Settled.{own_views, taken_back, AreTied}
use Rattle.cert_search.proofs.taking_back.gather.Given as goal

abbrev pub invariant-loop-steal_handle : goal.invariant-loop-steal_handle
invariant-loop-steal_handle l = record {
  names : names_in l.owns.items ≡ names_in l.initial.owns.items;
  tied : AreTied (names_in l.initial.owns.items) (map handle_named (into_iter_items l.steal_handle-iterator));
  taken : (d : ℕ) (v : DequeView) → slice_get (own_views l.initial.owns.items) d ≡ Some v
      → (u : DequeView) × (slice_get (own_views l.owns.items) d ≡ Some u) × (taken_back d u (map handle_named (into_iter_items l.steal_handle-iterator)) ≡ taken_back d v (map handle_named l.fn.handles.items));
}
