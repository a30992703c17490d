use Rattle.std.proofs.Common.{◌≡◌}
use Rattle.cert_search.specs.NamedViews.{own_named}
use Rattle.cert_search.proofs.own.Own.take.Given as goal

abbrev pub invariant-loop : goal.invariant-loop
invariant-loop g l = own_named l.self ≡ own_named l.initial.self
