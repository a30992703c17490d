use Rattle.std.proofs.Common.{arith}
use Rattle.quorum_expr.proofs.MemberSetLaws.{members_of-zero}
use Rattle.quorum_expr.proofs.MemberLists.{none_in_empty, least_of}
use Rattle.quorum_expr.proofs.member_set.MemberSet.first.Goals as goal
use Rattle.std.proofs.lemmas.Grind.{common_steps}

pub returns-else-self-gt0-clause-least : goal.returns-else-self-gt0-clause-least
returns-else-self-gt0-clause-least c = grind (arith, common_steps, members_of-zero)

pub returns-else-self-gt0-clause-first : goal.returns-else-self-gt0-clause-first
returns-else-self-gt0-clause-first c = none_in_empty c.args.self (returns-else-self-gt0-clause-least c)

pub returns-then-self-gt0-clause-first : goal.returns-then-self-gt0-clause-first
returns-then-self-gt0-clause-first c = grind (arith, common_steps, c.self.invariant, (least_of c.self.inside.bits c.args.self c.self.view_is (omega arith) c.self.invariant))

pub returns-then-self-gt0-clause-least : goal.returns-then-self-gt0-clause-least
returns-then-self-gt0-clause-least c = grind (arith, common_steps, c.self.invariant, (least_of c.self.inside.bits c.args.self c.self.view_is (omega arith) c.self.invariant))
