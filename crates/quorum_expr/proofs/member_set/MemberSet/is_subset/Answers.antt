use Rattle.quorum_expr.proofs.MemberLists.{none_outside}
use Rattle.quorum_expr.proofs.member_set.MemberSet.is_subset.Goals as goal

pub returns : goal.returns
returns c = none_outside c.args.self c.args.other c.difference.result c.is_empty.result c.difference.ensures c.is_empty.ensures
