use Rattle.std.proofs.Common.{◌≡◌, ◌++◌, map}
use Rattle.std.specs.Vec.Iter.{into_iter_items}
use Rattle.cert_search.specs.NamedViews.{handle_named}
use Rattle.cert_search.proofs.taking_back.push_all.Given as goal

abbrev pub invariant-loop-steal_handle : goal.invariant-loop-steal_handle
invariant-loop-steal_handle l = map handle_named l.handles.items ++ map handle_named (into_iter_items l.steal_handle-iterator) ≡ map handle_named l.initial.handles.items ++ map handle_named l.fn.others.items
