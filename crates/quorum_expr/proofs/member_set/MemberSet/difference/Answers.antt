use Rattle.std.proofs.Common.{◌∙◌}
use Rattle.std.specs.FinSet as set
use Rattle.quorum_expr.proofs.MemberSetLaws.{members_of-difference}
use Rattle.quorum_expr.proofs.member_set.MemberSet.difference.Goals as goal

pub returns : goal.returns
returns c = members_of-difference c.self.inside.bits c.other.inside.bits c.other.invariant ∙ (λ i. set.difference (c.self.view_is i) (c.other.view_is i))
