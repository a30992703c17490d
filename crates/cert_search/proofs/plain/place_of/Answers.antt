use Rattle.std.proofs.Common.{sym}
use Rattle.quorum_expr.specs.Common.{formula_of}
use Rattle.cert_search.specs.Plain.{is_member}
use Rattle.cert_search.proofs.Pairs.{found_at, not_at}
use Rattle.cert_search.proofs.plain.place_of.Goals as goal

pub returns-then-is_member-clause-place : goal.returns-then-is_member-clause-place
returns-then-is_member-clause-place g c =
    found_at (λ x. formula_of x.1) (is_member c.args.member) c.args.others.now c.loop-j.j c.index-others-j.result _ c.loop-j-test.true c.index-others-j.is (sym c.if-is_member.ensures) c.loop-j.invariant

pub loop-j-preserved : goal.loop-j-preserved
loop-j-preserved g c =
    not_at (λ x. formula_of x.1) (is_member c.args.member) c.args.others.now c.loop-j.j c.index-others-j.result _ c.loop-j-test.true c.index-others-j.is (sym c.if-is_member.ensures) c.loop-j.invariant
