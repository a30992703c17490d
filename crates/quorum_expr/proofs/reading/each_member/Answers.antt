use Rattle.std.proofs.Common.{◌++◌, ◌∷◌, ◌∙◌, ap, sym, map, arith, Ok, rules}
use Rattle.volume_model.specs.Formula.{member}
use Rattle.volume_model.specs.Common.{listed}
use Rattle.quorum_expr.specs.Forms.{formulas_of, weights_data}
use Rattle.quorum_expr.proofs.MemberLists.{empty_listed, first_removed, member_moved, member_counted, nil_right}
use Rattle.quorum_expr.proofs.Rows.{weights_pushed}
use Rattle.quorum_expr.proofs.reading.each_member.Goals as goal
use Rattle.std.proofs.lemmas.Grind.{common_steps}

pub without-rest-requires : goal.without-rest-requires
without-rest-requires c = (first_removed c.loop-m.rest c.in-Some.m c.in-Some.ensures.first c.in-Some.ensures.least.0 c.in-Some.ensures.least.1).0

pub loop-m-init : goal.loop-m-init
loop-m-init c = grind (arith, common_steps)

pub loop-m-smaller : goal.loop-m-smaller
loop-m-smaller c = grind (arith, common_steps, c.in-Some.ensures.first, c.in-Some.ensures.least.0, c.in-Some.ensures.least.1, c.without-rest.ensures, first_removed)

pub loop-m-preserved : goal.loop-m-preserved
loop-m-preserved c =
    let next = (first_removed c.loop-m.rest c.in-Some.m c.in-Some.ensures.first c.in-Some.ensures.least.0 c.in-Some.ensures.least.1).1 ∙ ap (λ s. c.in-Some.m ∷ listed s) (sym c.without-rest.ensures) in
    record {
      read = member_moved _ _ _ c.in-Some.m (listed c.loop-m.rest) (listed c.without-rest.result) (listed c.args.members) c.in_ok-push.ensures.items next c.loop-m.invariant.read;
      weights = weights_pushed (weights_data c.args.weights.now) _ _ _ c.len-in-Some.result c.in_ok-push.ensures.items (search rules) c.at.ensures c.loop-m.invariant.weights;
      counted = member_counted _ _ _ c.in-Some.m _ _ _ c.in_ok-push.ensures.items c.saturating_sub.ensures c.loop-m.invariant.counted;
    }

pub returns-clause-read : goal.returns-clause-read
returns-clause-read c = ap Ok (sym c.loop-m.invariant.read ∙ ap (λ ms. formulas_of c.loop-m.of.items ++ map member ms) (empty_listed c.loop-m.rest c.in_default.ensures.least) ∙ nil_right _)
