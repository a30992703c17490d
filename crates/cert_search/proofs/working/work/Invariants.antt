use Rattle.std.proofs.Common.{All}
use Rattle.plan.specs.Common.{all_lent}
use Rattle.cert_search.specs.Hands.{SameDeal}
use Rattle.cert_search.specs.Places.{IsFound}
use Rattle.cert_search.proofs.working.work.Given as goal

-- what was found so far
abbrev pub invariant-loop : goal.invariant-loop
invariant-loop g l = SameDeal l.initial.hand l.hand × (goal.iterator-loop g).can_next l.iterator' × (goal.iterator-loop g).is_finite l.iterator' × All (IsFound l.budget (all_lent l.claims)) l.founds.items
