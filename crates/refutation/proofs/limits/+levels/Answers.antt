use Rattle.std.proofs.Common.{◌-◌, nat_le, map, refl, ap, sym, ◌∙◌, falls}
use Rattle.std.proofs.Math.Nat.{le_of_lt}
use Rattle.refutation.specs.Rule.{branches_of, depth_of, branch_depth}
use Rattle.refutation.specs.Refutation.{rule_of}
use Rattle.refutation.proofs.Rules.{rule_of-Pick, rule_of-Match, branch_below, pick_below, match_below, open_below}
use Rattle.refutation.proofs.Walks.{one_level, depth_over, depth_under, all_shallow, opened_shallow, no_level}
use Rattle.refutation.proofs.limits.+levels.Goals as goal

pub are_shallow-returns-then-not-is_shallow : goal.are_shallow-returns-then-not-is_shallow
are_shallow-returns-then-not-is_shallow g t c =
    sym (depth_over c.args.branches.now c.loop-branch.branch-index c.args.levels c.branch-item.result c.loop-branch-test.true c.branch-item.is (sym c.is_shallow.ensures ∙ c.if-not-is_shallow.true)) ∙ c.loop-branch.invariant

pub are_shallow-loop-branch-preserved : goal.are_shallow-loop-branch-preserved
are_shallow-loop-branch-preserved g t c =
    depth_under c.args.branches.now c.loop-branch.branch-index c.args.levels c.branch-item.result c.loop-branch-test.true c.branch-item.is (sym c.is_shallow.ensures ∙ c.if-not-is_shallow.false) ∙ c.loop-branch.invariant

pub is_shallow-returns-in-Pick : goal.is_shallow-returns-in-Pick
is_shallow-returns-in-Pick g t c =
    c.are_shallow.ensures ∙ ap (λ rs. nat_le (branch_depth (branches_of (map rule_of rs))) (c.args.levels - 1)) c.deref-in-Pick.ensures.value
    ∙ one_level _ c.args.levels c.if-levels-eq0.false
    ∙ ap (λ r. nat_le (depth_of r) c.args.levels) (sym (ap rule_of c.in-Pick.is ∙ rule_of-Pick c.in-Pick.side c.in-Pick.item c.in-Pick.children c.in-Pick.then))

pub is_shallow-returns-in-Match : goal.is_shallow-returns-in-Match
is_shallow-returns-in-Match g t c =
    c.are_shallow-in-Match.ensures ∙ ap (λ rs. nat_le (branch_depth (branches_of (map rule_of rs))) (c.args.levels - 1)) c.deref-in-Match.ensures.value
    ∙ one_level _ c.args.levels c.if-levels-eq0.false
    ∙ ap (λ r. nat_le (depth_of r) c.args.levels) (sym (ap rule_of c.in-Match.is ∙ rule_of-Match c.in-Match.left c.in-Match.right c.in-Match.pairs c.in-Match.then))

pub is_shallow-returns-then-levels-eq0 : goal.is_shallow-returns-then-levels-eq0
is_shallow-returns-then-levels-eq0 g t c = no_level (rule_of c.args.rule.now) c.args.levels c.if-levels-eq0.true

pub is_shallow-returns-in-Open : goal.is_shallow-returns-in-Open
is_shallow-returns-in-Open g t c = opened_shallow c.args.rule.now c.in-Open.side c.in-Open.item c.args.levels c.in-Open.then c.deref.result.now _ c.in-Open.is c.deref.ensures c.if-levels-eq0.false c.is_shallow.ensures

pub are_shallow-loop-branch-init : goal.are_shallow-loop-branch-init
are_shallow-loop-branch-init g t c = refl

pub are_shallow-loop-branch-smaller : goal.are_shallow-loop-branch-smaller
are_shallow-loop-branch-smaller g t c = falls _ _ c.loop-branch-test.true

pub are_shallow-offset_bounds-branches-branch-index : goal.are_shallow-offset_bounds-branches-branch-index
are_shallow-offset_bounds-branches-branch-index g t c = le_of_lt c.loop-branch-test.true

pub are_shallow-returns : goal.are_shallow-returns
are_shallow-returns g t c = all_shallow c.args.branches.now c.loop-branch.branch-index c.args.levels _ c.loop-branch-test.false c.loop-branch.invariant

pub are_shallow-is_shallow-requires : goal.are_shallow-is_shallow-requires
are_shallow-is_shallow-requires g t c κs within = (branch_below c.args.branches.now c.loop-branch.branch-index t c.branch-item.result c.loop-branch-test.true c.branch-item.is c.decreases, within)

pub is_shallow-is_shallow-requires : goal.is_shallow-is_shallow-requires
is_shallow-is_shallow-requires g t c κs within = (open_below c.args.rule.now c.in-Open.side c.in-Open.item t c.in-Open.then c.deref.result.now c.in-Open.is c.deref.ensures c.decreases, within)

pub is_shallow-are_shallow-requires : goal.is_shallow-are_shallow-requires
is_shallow-are_shallow-requires g t c κs within = (pick_below c.args.rule.now c.in-Pick.side c.in-Pick.item t c.in-Pick.children c.in-Pick.then c.deref-in-Pick.result.now c.in-Pick.is c.deref-in-Pick.ensures.value c.decreases, within)

pub is_shallow-are_shallow-requires-in-Match : goal.is_shallow-are_shallow-requires-in-Match
is_shallow-are_shallow-requires-in-Match g t c κs within = (match_below c.args.rule.now c.in-Match.left c.in-Match.right t c.in-Match.pairs c.in-Match.then c.deref-in-Match.result.now c.in-Match.is c.deref-in-Match.ensures.value c.decreases, within)
