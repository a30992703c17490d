use Rattle.std.proofs.Common.{◌≡◌, ◌∙◌, ap, arith}
use Rattle.std.specs.FinSet as set
use Rattle.volume_model.specs.Common.{each_below}
use Rattle.quorum_checker.proofs.naming.list_of.Goals as goal
use Rattle.std.proofs.lemmas.Grind.{common_steps}

pub returns-clause-listed : goal.returns-clause-listed
returns-clause-listed c =
    let all : c.loop-member.member ≡ 64 = omega (arith, c.loop-member.auto.member-end) in
    c.loop-member.invariant ∙ ap (λ n. each_below n (set.contains c.args.members) (λ x. x)) all

pub loop-member-preserved : goal.loop-member-preserved
loop-member-preserved c = grind (arith, common_steps)
