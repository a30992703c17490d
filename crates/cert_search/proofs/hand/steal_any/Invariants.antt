use Rattle.std.proofs.Common.{◌≡◌, ℕ, ◌<◌, map, vec_len, true, Some, slice_get}
use Rattle.cert_search.specs.NamedViews.{NamedView, handle_named, handle_calm}
use Rattle.cert_search.proofs.hand.steal_any.Given as goal

abbrev pub invariant-loop-i : goal.invariant-loop-i
invariant-loop-i g l = record {
  same : map handle_calm l.others.items ≡ map handle_calm l.initial.others.items;
  count : vec_len l.others ≡ vec_len l.initial.others;
  ended : (k : ℕ) (v : NamedView) → k < l.i → slice_get (map handle_named l.others.items) k ≡ Some v → v.1.ended ≡ true;
}
