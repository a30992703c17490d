use Rattle.std.proofs.Common.{◌≡◌, ℕ, ◌<◌, vec_len, Some, slice_get}
use Rattle.cert_search.specs.declared.deque.DequeView.{DequeView}
use Rattle.cert_search.specs.Deque.{Settles}
use Rattle.cert_search.specs.Settled.{own_views}
use Rattle.cert_search.proofs.taking_back.learn_all.Given as goal

abbrev pub invariant-loop-d : goal.invariant-loop-d
invariant-loop-d l = record {
  count : vec_len l.owns ≡ vec_len l.initial.owns;
  same : own_views l.owns.items ≡ own_views l.initial.owns.items;
  learned : (k : ℕ) (v : DequeView) → k < l.d → slice_get (own_views l.initial.owns.items) k ≡ Some v → Settles v;
}
