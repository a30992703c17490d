use Rattle.std.proofs.Common.{◌≡◌}
use Rattle.cert_search.specs.NamedViews.{handle_named}
use Rattle.cert_search.proofs.steal_handle.StealHandle.steal.Given as goal

abbrev pub invariant-loop : goal.invariant-loop
invariant-loop g l = handle_named l.self ≡ handle_named l.initial.self
