use Rattle.std.proofs.Common.{arith, nat_eq}
use Rattle.std.proofs.lemmas.Bool.Decides.{nat_tests}
use Rattle.quorum_expr.proofs.MemberSetLaws.{members_of-zero, zero-members_of}
use Rattle.quorum_expr.proofs.member_set.MemberSet.is_empty.Goals as goal
use Rattle.std.proofs.lemmas.Grind.{common_steps}

pub returns : goal.returns
returns c = grind (arith, common_steps, c.self.invariant, nat_tests, members_of-zero, nat_eq, zero-members_of)
