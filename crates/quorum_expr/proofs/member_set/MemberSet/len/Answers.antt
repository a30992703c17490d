use Rattle.quorum_expr.proofs.MemberLists.{ones_listed}
use Rattle.quorum_expr.proofs.member_set.MemberSet.len.Goals as goal

pub returns : goal.returns
returns c = ones_listed c.self.inside.bits c.args.self c.self.view_is c.self.invariant
