use Rattle.std.proofs.Common.{ap, ◌∙◌, sym, map, refl, falls}
use Rattle.std.proofs.Math.Nat.{le_of_lt}
use Rattle.refutation.specs.Rule.{branches_of}
use Rattle.refutation.specs.Refutation.{rule_of}
use Rattle.refutation.specs.Limits.{each_keeps_lists}
use Rattle.refutation.proofs.Rules.{branch_below, pick_below, match_below, open_below}
use Rattle.refutation.proofs.Walks.{pick_kept, match_kept, and_true, and_false, kept_over, kept_under, all_kept, opened_kept}
use Rattle.refutation.proofs.limits.+lists.Goals as goal

pub keep_lists-returns-then-are_short : goal.keep_lists-returns-then-are_short
keep_lists-returns-then-are_short g t c =
    c.each_keep_lists.ensures ∙ ap (λ rs. each_keeps_lists (branches_of (map rule_of rs))) c.deref-then-are_short.ensures.value
    ∙ and_true _ _ _ _ (pick_kept c.args.rule.now c.in-Pick.side c.in-Pick.item c.in-Pick.children c.in-Pick.then _ _ c.in-Pick.is c.len.ensures c.len-in-Pick.ensures) c.are_short.ensures c.if-are_short.true

pub keep_lists-returns-else-are_short : goal.keep_lists-returns-else-are_short
keep_lists-returns-else-are_short g t c =
    and_false _ _ _ _ (pick_kept c.args.rule.now c.in-Pick.side c.in-Pick.item c.in-Pick.children c.in-Pick.then _ _ c.in-Pick.is c.len.ensures c.len-in-Pick.ensures) c.are_short.ensures c.if-are_short.false

pub keep_lists-returns-then-are_short-2 : goal.keep_lists-returns-then-are_short-2
keep_lists-returns-then-are_short-2 g t c =
    c.each_keep_lists-then-are_short-2.ensures ∙ ap (λ rs. each_keeps_lists (branches_of (map rule_of rs))) c.deref-then-are_short-2.ensures.value
    ∙ and_true _ _ _ _ (match_kept c.args.rule.now c.in-Match.left c.in-Match.right c.in-Match.pairs c.in-Match.then _ _ c.in-Match.is c.len-in-Match.ensures c.len-in-Match-2.ensures) c.are_short-in-Match.ensures c.if-are_short-2.true

pub keep_lists-returns-else-are_short-2 : goal.keep_lists-returns-else-are_short-2
keep_lists-returns-else-are_short-2 g t c =
    and_false _ _ _ _ (match_kept c.args.rule.now c.in-Match.left c.in-Match.right c.in-Match.pairs c.in-Match.then _ _ c.in-Match.is c.len-in-Match.ensures c.len-in-Match-2.ensures) c.are_short-in-Match.ensures c.if-are_short-2.false

pub keep_lists-each_keep_lists-requires : goal.keep_lists-each_keep_lists-requires
keep_lists-each_keep_lists-requires g t c κs within = (pick_below c.args.rule.now c.in-Pick.side c.in-Pick.item t c.in-Pick.children c.in-Pick.then c.deref-then-are_short.result.now c.in-Pick.is c.deref-then-are_short.ensures.value c.decreases, within)

pub keep_lists-each_keep_lists-requires-then-are_short-2 : goal.keep_lists-each_keep_lists-requires-then-are_short-2
keep_lists-each_keep_lists-requires-then-are_short-2 g t c κs within = (match_below c.args.rule.now c.in-Match.left c.in-Match.right t c.in-Match.pairs c.in-Match.then c.deref-then-are_short-2.result.now c.in-Match.is c.deref-then-are_short-2.ensures.value c.decreases, within)

pub each_keep_lists-keep_lists-requires : goal.each_keep_lists-keep_lists-requires
each_keep_lists-keep_lists-requires g t c κs within = (branch_below c.args.branches.now c.loop-branch.branch-index t c.branch-item.result c.loop-branch-test.true c.branch-item.is c.decreases, within)

pub each_keep_lists-loop-branch-init : goal.each_keep_lists-loop-branch-init
each_keep_lists-loop-branch-init g t c = refl

pub each_keep_lists-loop-branch-smaller : goal.each_keep_lists-loop-branch-smaller
each_keep_lists-loop-branch-smaller g t c = falls _ _ c.loop-branch-test.true

pub each_keep_lists-offset_bounds-branches-branch-index : goal.each_keep_lists-offset_bounds-branches-branch-index
each_keep_lists-offset_bounds-branches-branch-index g t c = le_of_lt c.loop-branch-test.true

pub each_keep_lists-loop-branch-preserved : goal.each_keep_lists-loop-branch-preserved
each_keep_lists-loop-branch-preserved g t c =
    kept_under c.args.branches.now c.loop-branch.branch-index c.branch-item.result _ c.loop-branch-test.true c.branch-item.is (sym c.keep_lists.ensures ∙ c.if-not-keep_lists.false) c.loop-branch.invariant

pub each_keep_lists-returns-then-not-keep_lists : goal.each_keep_lists-returns-then-not-keep_lists
each_keep_lists-returns-then-not-keep_lists g t c =
    kept_over c.args.branches.now c.loop-branch.branch-index c.branch-item.result _ c.loop-branch-test.true c.branch-item.is (sym c.keep_lists.ensures ∙ c.if-not-keep_lists.true) c.loop-branch.invariant

pub each_keep_lists-returns : goal.each_keep_lists-returns
each_keep_lists-returns g t c = all_kept c.args.branches.now c.loop-branch.branch-index _ c.loop-branch-test.false c.loop-branch.invariant

pub keep_lists-keep_lists-requires : goal.keep_lists-keep_lists-requires
keep_lists-keep_lists-requires g t c κs within = (open_below c.args.rule.now c.in-Open.side c.in-Open.item t c.in-Open.then c.deref.result.now c.in-Open.is c.deref.ensures c.decreases, within)

pub keep_lists-returns-in-Open : goal.keep_lists-returns-in-Open
keep_lists-returns-in-Open g t c = opened_kept c.args.rule.now c.in-Open.side c.in-Open.item c.in-Open.then c.deref.result.now _ c.in-Open.is c.deref.ensures c.keep_lists.ensures
