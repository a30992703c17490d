use Rattle.std.proofs.Common.{◌∙◌}
use Rattle.std.proofs.lemmas.Nat.{or_lt}
use Rattle.std.specs.FinSet as set
use Rattle.quorum_expr.proofs.MemberSetLaws.{members_of-union}
use Rattle.quorum_expr.proofs.member_set.MemberSet.union.Goals as goal

pub invariant_of-result : goal.invariant_of-result
invariant_of-result c = or_lt 64 _ _ c.self.invariant c.other.invariant

pub returns : goal.returns
returns c = members_of-union c.self.inside.bits c.other.inside.bits ∙ (λ i. set.union (c.self.view_is i) (c.other.view_is i))
