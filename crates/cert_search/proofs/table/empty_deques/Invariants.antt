use Rattle.cert_search.specs.Dealing.{own_view, open_deque}
use Rattle.std.proofs.Common.{◌≡◌, map}
use Rattle.std.specs.List.{range_with_len}
use Rattle.cert_search.proofs.table.empty_deques.Given as goal

abbrev pub invariant-loop-which : goal.invariant-loop-which
invariant-loop-which l = map own_view l.owns.items ≡ map (open_deque l.workers 0) (range_with_len 0 l.which)
