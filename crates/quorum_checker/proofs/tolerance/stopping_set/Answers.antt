use Rattle.std.proofs.Common.{◌∙◌, ap, arith, rules}
use Rattle.quorum_expr.proofs.ValidLaws.{counts, well_shaped}
use Rattle.quorum_checker.specs.Tolerance.{count_of}
use Rattle.quorum_checker.proofs.Losses.{nobody, none_satisfies, all_small, all_count, count_few, count_empty, all_lost, least_of}
use Rattle.quorum_checker.proofs.tolerance.stopping_set.Goals as goal
use Rattle.std.proofs.lemmas.Grind.{common_steps}

pub returns-then-holds-clause-known : goal.returns-then-holds-clause-known
returns-then-holds-clause-known g c = grind (arith, common_steps, c.empty.ensures, c.holds.ensures, nobody, none_satisfies, counts, well_shaped)

pub smallest-requires-clause-small : goal.smallest-requires-clause-small
smallest-requires-clause-small g c = grind (arith, common_steps, c.as_slice.ensures.value, c.in_ok-list.ensures.listed, all_small)

pub smallest-requires-clause-room : goal.smallest-requires-clause-room
smallest-requires-clause-room g c = grind (arith, common_steps, c.as_slice.ensures.value, c.in_ok-list.ensures.listed, all_count, count_few)

pub smallest-requires-clause-gone : goal.smallest-requires-clause-gone
smallest-requires-clause-gone g c = omega (arith, ap count_of c.empty-2.ensures ∙ count_empty)

pub smallest-requires-clause-best : goal.smallest-requires-clause-best
smallest-requires-clause-best g c = grind (arith, common_steps, c.empty.ensures, c.holds.ensures, c.count.ensures, nobody, all_lost)

pub returns-in-Some-smallest-clause-least : goal.returns-in-Some-smallest-clause-least
returns-in-Some-smallest-clause-least g c = search (rules, c.as_slice.ensures.value, c.in_ok-list.ensures.listed, c.contains.ensures.below, c.empty-2.ensures, c.in-Some-smallest.ensures.loss, c.in-Some-smallest.ensures.least, least_of)

pub returns-clause-known : goal.returns-clause-known
returns-clause-known g c = grind (arith, common_steps, c.as_slice.ensures.value, c.in_ok-list.ensures.listed, c.in-None.ensures.stuck, all_count)
