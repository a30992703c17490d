use Rattle.std.proofs.Common.{IfOk}
use Rattle.quorum_checker.proofs.Split.{parts, no_members, left_dead, right_dead, stopped, left_apart, right_apart, both_refuted}
use Rattle.quorum_checker.proofs.cases.+split.Goals as goal
use Rattle.std.proofs.lemmas.Grind.{common_steps}
use Rattle.std.proofs.Common.{arith}

pub returns-then-not-holds-clause-cases : goal.returns-then-not-holds-clause-cases
returns-then-not-holds-clause-cases g t c = grind (arith, common_steps, c.complement.ensures, c.holds.ensures, c.dead.ensures, left_dead)

pub returns-then-not-holds-2-clause-cases : goal.returns-then-not-holds-2-clause-cases
returns-then-not-holds-2-clause-cases g t c = grind (arith, common_steps, c.complement.ensures, c.holds.ensures, c.complement-2.ensures, c.holds-2.ensures, c.dead-then-not-holds-2.ensures, right_dead)

pub returns-in_default-clause-cases : goal.returns-in_default-clause-cases
returns-in_default-clause-cases g t c = grind (arith, common_steps, c.complement.ensures, c.holds.ensures, c.complement-2.ensures, c.holds-2.ensures, stopped, no_members)

pub returns-in-Apart-clause-cases : goal.returns-in-Apart-clause-cases
returns-in-Apart-clause-cases g t c = grind (arith, common_steps, c.complement.ensures, c.holds.ensures, c.complement-2.ensures, c.holds-2.ensures, c.with.ensures, c.in-Apart.is, c.in_ok-left.ensures.cases, left_apart, parts)

pub returns-in-Apart-2-clause-cases : goal.returns-in-Apart-2-clause-cases
returns-in-Apart-2-clause-cases g t c = grind (arith, common_steps, c.complement.ensures, c.holds.ensures, c.complement-2.ensures, c.holds-2.ensures, c.with.ensures, c.with-2.ensures, c.in-Refuted.is, c.in_ok-left.ensures.cases, c.in-Apart-2.is, c.in_ok-right.ensures.cases, right_apart, parts)

pub returns-clause-cases : goal.returns-clause-cases
returns-clause-cases g t c = grind (arith, common_steps, c.complement.ensures, c.holds.ensures, c.complement-2.ensures, c.holds-2.ensures, c.with.ensures, c.with-2.ensures, c.in-Refuted.is, c.in_ok-left.ensures.cases, c.in-Refuted-2.is, c.in_ok-right.ensures.cases, c.join.ensures.joined, IfOk, both_refuted, parts)
