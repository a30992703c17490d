use Rattle.std.proofs.Common.{◌∙◌, ap}
use Rattle.std.specs.FinSet as set
use Rattle.quorum_expr.proofs.MemberSetLaws.{difference-one}
use Rattle.quorum_expr.proofs.member_set.MemberSet.without.Goals as goal

pub returns : goal.returns
returns c = c.difference.ensures ∙ ap (set.difference c.args.self) (c.with.ensures ∙ ap (λ s. set.insert s c.args.member) c.empty.ensures) ∙ difference-one c.args.self c.args.member
