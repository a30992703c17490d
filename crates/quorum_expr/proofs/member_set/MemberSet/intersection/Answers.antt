use Rattle.std.proofs.Common.{◌∙◌}
use Rattle.std.specs.FinSet as set
use Rattle.quorum_expr.proofs.MemberSetLaws.{members_of-intersection}
use Rattle.quorum_expr.proofs.member_set.MemberSet.intersection.Goals as goal

pub returns : goal.returns
returns c = members_of-intersection c.self.inside.bits c.other.inside.bits ∙ (λ i. set.intersection (c.self.view_is i) (c.other.view_is i))
