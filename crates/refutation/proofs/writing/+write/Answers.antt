use Rattle.std.proofs.Common.{◌≡◌, ◌∙◌, ap, sym, subst, map, IfOk, falls}
use Rattle.std.proofs.Math.Nat.{le_of_lt}
use Rattle.serde_json.specs.View.{view, items_of}
use Rattle.quorum_expr.proofs.Rebuilt.{pushed, finish}
use Rattle.refutation.specs.Rule.{branches_of, branch_depth}
use Rattle.refutation.specs.Refutation.{rule_of}
use Rattle.refutation.specs.Ranges.{HasRanges}
use Rattle.refutation.specs.Writing.{certificate_data, numbers_data, pairs_data, branches_data, open_data, pick_data, match_data, split_data}
use Rattle.refutation.proofs.Rules.{rule_of-Dead, rule_of-Clash, rule_of-Open, rule_of-Pick, rule_of-Match, rule_of-Split, depth_step, branch_below, pick_below, match_below, open_below, left_below, right_below}
use Rattle.refutation.proofs.InRange.{none_written, none_ranges, on_ok, ranges_step, pick_in_range, match_in_range}
use Rattle.refutation.proofs.Written.{branches-are}
use Rattle.refutation.proofs.writing.+write.Goals as goal

pub branches_json-loop-branch-preserved : goal.branches_json-loop-branch-preserved
branches_json-loop-branch-preserved g t c = record {
  written = pushed view (λ r. certificate_data (rule_of r)) c.args.then.now c.loop-branch.branch-index c.branch-item.result _ _ _ _ c.in_ok-push.ensures.items c.in_ok-tree_json.ensures.written c.loop-branch-test.true c.branch-item.is c.loop-branch.invariant.written;
  ranges = λ after. c.loop-branch.invariant.ranges (ranges_step c.args.then.now c.loop-branch.branch-index c.branch-item.result c.loop-branch-test.true c.branch-item.is c.in_ok-tree_json.ensures.ranges after);
  depth = (depth_step c.args.then.now c.loop-branch.branch-index (branch_depth (branches_of (map rule_of c.args.then.now))) c.branch-item.result c.loop-branch-test.true c.branch-item.is c.loop-branch.invariant.depth).1;
}

pub branches_json-returns-clause-written : goal.branches_json-returns-clause-written
branches_json-returns-clause-written g t c = ap items_of (finish (λ r. certificate_data (rule_of r)) c.args.then.now c.loop-branch.branch-index _ _ c.loop-branch-test.false c.loop-branch.invariant.written) ∙ branches-are c.args.then.now

pub tree_json-returns-in_ok-numbers-in-Pick-clause-written : goal.tree_json-returns-in_ok-numbers-in-Pick-clause-written
tree_json-returns-in_ok-numbers-in-Pick-clause-written g t c =
    subst (λ d. IfOk c.pick_json.result (λ v. view v ≡ d))
    ((λ i. pick_data c.in-Pick.side c.in-Pick.item ((c.in_ok-numbers-in-Pick.ensures.written ∙ ap numbers_data c.deref-in-Pick-2.ensures.value) i) ((c.in_ok-branches-in-Pick.ensures.written ∙ ap (λ rs. branches_data (branches_of (map rule_of rs))) c.deref-in-Pick.ensures.value) i))
    ∙ sym (ap (λ r. certificate_data (rule_of r)) c.in-Pick.is ∙ ap certificate_data (rule_of-Pick c.in-Pick.side c.in-Pick.item c.in-Pick.children c.in-Pick.then)))
    c.pick_json.ensures.written

pub tree_json-returns-in_ok-numbers-in-Match-clause-written : goal.tree_json-returns-in_ok-numbers-in-Match-clause-written
tree_json-returns-in_ok-numbers-in-Match-clause-written g t c =
    subst (λ d. IfOk c.match_json.result (λ v. view v ≡ d))
    ((λ i. match_data c.in-Match.left c.in-Match.right ((c.in_ok-numbers-in-Match.ensures.written ∙ ap pairs_data c.deref-in-Match-2.ensures.value) i) ((c.in_ok-branches-in-Match.ensures.written ∙ ap (λ rs. branches_data (branches_of (map rule_of rs))) c.deref-in-Match.ensures.value) i))
    ∙ sym (ap (λ r. certificate_data (rule_of r)) c.in-Match.is ∙ ap certificate_data (rule_of-Match c.in-Match.left c.in-Match.right c.in-Match.pairs c.in-Match.then)))
    c.match_json.ensures.written

pub tree_json-returns-in_ok-numbers-in-Pick-clause-ranges : goal.tree_json-returns-in_ok-numbers-in-Pick-clause-ranges
tree_json-returns-in_ok-numbers-in-Pick-clause-ranges g t c =
    on_ok _ c.pick_json.result (pick_in_range c.args.rule.now c.in-Pick.side c.in-Pick.item c.in-Pick.children c.in-Pick.then c.deref-in-Pick-2.result.now c.deref-in-Pick.result.now c.in-Pick.is c.deref-in-Pick-2.ensures.value c.deref-in-Pick.ensures.value
    c.pick_json.ensures.range c.in_ok-numbers-in-Pick.ensures.ranges c.in_ok-branches-in-Pick.ensures.ranges)

pub tree_json-returns-in_ok-numbers-in-Match-clause-ranges : goal.tree_json-returns-in_ok-numbers-in-Match-clause-ranges
tree_json-returns-in_ok-numbers-in-Match-clause-ranges g t c =
    on_ok _ c.match_json.result (match_in_range c.args.rule.now c.in-Match.left c.in-Match.right c.in-Match.pairs c.in-Match.then c.deref-in-Match-2.result.now c.deref-in-Match.result.now c.in-Match.is c.deref-in-Match-2.ensures.value c.deref-in-Match.ensures.value
    c.match_json.ensures.left_range c.match_json.ensures.right_range c.in_ok-numbers-in-Match.ensures.ranges c.in_ok-branches-in-Match.ensures.ranges)

pub tree_json-returns-in-Dead-clause-written : goal.tree_json-returns-in-Dead-clause-written
tree_json-returns-in-Dead-clause-written g t c = subst (λ r. IfOk c.dead_json.result (λ v. view v ≡ certificate_data r)) (sym (ap rule_of c.in-Dead.is ∙ rule_of-Dead _ c.in-Dead.side c.in-Dead.item)) c.dead_json.ensures.written

pub tree_json-returns-in-Dead-clause-ranges : goal.tree_json-returns-in-Dead-clause-ranges
tree_json-returns-in-Dead-clause-ranges g t c = on_ok _ c.dead_json.result (subst HasRanges (sym (ap rule_of c.in-Dead.is ∙ rule_of-Dead _ c.in-Dead.side c.in-Dead.item)) c.dead_json.ensures.range)

pub tree_json-returns-in-Clash-clause-written : goal.tree_json-returns-in-Clash-clause-written
tree_json-returns-in-Clash-clause-written g t c = subst (λ r. IfOk c.clash_json.result (λ v. view v ≡ certificate_data r)) (sym (ap rule_of c.in-Clash.is ∙ rule_of-Clash _ c.in-Clash.left c.in-Clash.right)) c.clash_json.ensures.written

pub tree_json-returns-in-Clash-clause-ranges : goal.tree_json-returns-in-Clash-clause-ranges
tree_json-returns-in-Clash-clause-ranges g t c = on_ok _ c.clash_json.result (subst HasRanges (sym (ap rule_of c.in-Clash.is ∙ rule_of-Clash _ c.in-Clash.left c.in-Clash.right)) (c.clash_json.ensures.left_range, c.clash_json.ensures.right_range))

pub tree_json-returns-in_ok-branch-in-Open-clause-written : goal.tree_json-returns-in_ok-branch-in-Open-clause-written
tree_json-returns-in_ok-branch-in-Open-clause-written g t c =
    subst (λ r. IfOk c.open_json.result (λ v. view v ≡ certificate_data r)) (sym (ap rule_of c.in-Open.is ∙ rule_of-Open c.in-Open.side c.in-Open.item c.in-Open.then))
    (subst (λ d. IfOk c.open_json.result (λ v. view v ≡ d)) (ap (open_data c.in-Open.side c.in-Open.item) (c.in_ok-branch-in-Open.ensures.written ∙ ap (λ r. certificate_data (rule_of r)) c.deref.ensures)) c.open_json.ensures.written)

pub tree_json-returns-in_ok-branch-in-Open-clause-ranges : goal.tree_json-returns-in_ok-branch-in-Open-clause-ranges
tree_json-returns-in_ok-branch-in-Open-clause-ranges g t c =
    on_ok _ c.open_json.result (subst HasRanges (sym (ap rule_of c.in-Open.is ∙ rule_of-Open c.in-Open.side c.in-Open.item c.in-Open.then)) (c.open_json.ensures.range, subst (λ r. HasRanges (rule_of r)) c.deref.ensures c.in_ok-branch-in-Open.ensures.ranges))

pub tree_json-returns-in_ok-second-in-Split-clause-written : goal.tree_json-returns-in_ok-second-in-Split-clause-written
tree_json-returns-in_ok-second-in-Split-clause-written g t c =
    subst (λ r. IfOk c.split_json.result (λ v. view v ≡ certificate_data r)) (sym (ap rule_of c.in-Split.is ∙ rule_of-Split c.in-Split.member c.in-Split.left c.in-Split.right))
    (subst (λ d. IfOk c.split_json.result (λ v. view v ≡ d))
    (λ i. split_data c.in-Split.member ((c.in_ok-first-in-Split.ensures.written ∙ ap (λ r. certificate_data (rule_of r)) c.deref-in-Split.ensures) i) ((c.in_ok-second-in-Split.ensures.written ∙ ap (λ r. certificate_data (rule_of r)) c.deref-in-Split-2.ensures) i))
    c.split_json.ensures)

pub tree_json-returns-in_ok-second-in-Split-clause-ranges : goal.tree_json-returns-in_ok-second-in-Split-clause-ranges
tree_json-returns-in_ok-second-in-Split-clause-ranges g t c =
    on_ok _ c.split_json.result (subst HasRanges (sym (ap rule_of c.in-Split.is ∙ rule_of-Split c.in-Split.member c.in-Split.left c.in-Split.right))
    (subst (λ r. HasRanges (rule_of r)) c.deref-in-Split.ensures c.in_ok-first-in-Split.ensures.ranges, subst (λ r. HasRanges (rule_of r)) c.deref-in-Split-2.ensures c.in_ok-second-in-Split.ensures.ranges))

pub tree_json-returns-in_err-branch-in-Open : goal.tree_json-returns-in_err-branch-in-Open
tree_json-returns-in_err-branch-in-Open g t c = record { written = none_written _ _ c.from_residual.result c.from_residual.ensures.1; ranges = none_ranges _ _ c.from_residual.result c.from_residual.ensures.1 }

pub tree_json-returns-in_err-branches-in-Pick : goal.tree_json-returns-in_err-branches-in-Pick
tree_json-returns-in_err-branches-in-Pick g t c = record { written = none_written _ _ c.from_residual-in_err-branches-in-Pick.result c.from_residual-in_err-branches-in-Pick.ensures.1; ranges = none_ranges _ _ c.from_residual-in_err-branches-in-Pick.result c.from_residual-in_err-branches-in-Pick.ensures.1 }

pub tree_json-returns-in_err-numbers-in-Pick : goal.tree_json-returns-in_err-numbers-in-Pick
tree_json-returns-in_err-numbers-in-Pick g t c = record { written = none_written _ _ c.from_residual-in_err-numbers-in-Pick.result c.from_residual-in_err-numbers-in-Pick.ensures.1; ranges = none_ranges _ _ c.from_residual-in_err-numbers-in-Pick.result c.from_residual-in_err-numbers-in-Pick.ensures.1 }

pub tree_json-returns-in_err-branches-in-Match : goal.tree_json-returns-in_err-branches-in-Match
tree_json-returns-in_err-branches-in-Match g t c = record { written = none_written _ _ c.from_residual-in_err-branches-in-Match.result c.from_residual-in_err-branches-in-Match.ensures.1; ranges = none_ranges _ _ c.from_residual-in_err-branches-in-Match.result c.from_residual-in_err-branches-in-Match.ensures.1 }

pub tree_json-returns-in_err-numbers-in-Match : goal.tree_json-returns-in_err-numbers-in-Match
tree_json-returns-in_err-numbers-in-Match g t c = record { written = none_written _ _ c.from_residual-in_err-numbers-in-Match.result c.from_residual-in_err-numbers-in-Match.ensures.1; ranges = none_ranges _ _ c.from_residual-in_err-numbers-in-Match.result c.from_residual-in_err-numbers-in-Match.ensures.1 }

pub tree_json-returns-in_err-first-in-Split : goal.tree_json-returns-in_err-first-in-Split
tree_json-returns-in_err-first-in-Split g t c = record { written = none_written _ _ c.from_residual-in_err-first-in-Split.result c.from_residual-in_err-first-in-Split.ensures.1; ranges = none_ranges _ _ c.from_residual-in_err-first-in-Split.result c.from_residual-in_err-first-in-Split.ensures.1 }

pub tree_json-returns-in_err-second-in-Split : goal.tree_json-returns-in_err-second-in-Split
tree_json-returns-in_err-second-in-Split g t c = record { written = none_written _ _ c.from_residual-in_err-second-in-Split.result c.from_residual-in_err-second-in-Split.ensures.1; ranges = none_ranges _ _ c.from_residual-in_err-second-in-Split.result c.from_residual-in_err-second-in-Split.ensures.1 }

pub tree_json-tree_json-requires : goal.tree_json-tree_json-requires
tree_json-tree_json-requires g t c κs within = (open_below c.args.rule.now c.in-Open.side c.in-Open.item t c.in-Open.then c.deref.result.now c.in-Open.is c.deref.ensures c.decreases, within)

pub tree_json-branches_json-requires : goal.tree_json-branches_json-requires
tree_json-branches_json-requires g t c κs within = (pick_below c.args.rule.now c.in-Pick.side c.in-Pick.item t c.in-Pick.children c.in-Pick.then c.deref-in-Pick.result.now c.in-Pick.is c.deref-in-Pick.ensures.value c.decreases, within)

pub tree_json-branches_json-requires-in-Match : goal.tree_json-branches_json-requires-in-Match
tree_json-branches_json-requires-in-Match g t c κs within = (match_below c.args.rule.now c.in-Match.left c.in-Match.right t c.in-Match.pairs c.in-Match.then c.deref-in-Match.result.now c.in-Match.is c.deref-in-Match.ensures.value c.decreases, within)

pub tree_json-tree_json-requires-in-Split : goal.tree_json-tree_json-requires-in-Split
tree_json-tree_json-requires-in-Split g t c κs within = (left_below c.args.rule.now c.in-Split.member t c.in-Split.left c.in-Split.right c.deref-in-Split.result.now c.in-Split.is c.deref-in-Split.ensures c.decreases, within)

pub tree_json-tree_json-requires-in-Split-2 : goal.tree_json-tree_json-requires-in-Split-2
tree_json-tree_json-requires-in-Split-2 g t c κs within = (right_below c.args.rule.now c.in-Split.member t c.in-Split.left c.in-Split.right c.deref-in-Split-2.result.now c.in-Split.is c.deref-in-Split-2.ensures c.decreases, within)

pub branches_json-tree_json-requires : goal.branches_json-tree_json-requires
branches_json-tree_json-requires g t c κs within = (branch_below c.args.then.now c.loop-branch.branch-index t c.branch-item.result c.loop-branch-test.true c.branch-item.is c.decreases, within)

pub branches_json-loop-branch-smaller : goal.branches_json-loop-branch-smaller
branches_json-loop-branch-smaller g t c = falls _ _ c.loop-branch-test.true

pub branches_json-bounds-then-branch-index : goal.branches_json-bounds-then-branch-index
branches_json-bounds-then-branch-index g t c = c.loop-branch-test.true

pub branches_json-offset_bounds-then-branch-index : goal.branches_json-offset_bounds-then-branch-index
branches_json-offset_bounds-then-branch-index g t c = le_of_lt c.loop-branch-test.true

pub branches_json-returns-in_err-tree_json : goal.branches_json-returns-in_err-tree_json
branches_json-returns-in_err-tree_json g t c = record { written = none_written _ _ c.from_residual.result c.from_residual.ensures.1; ranges = none_ranges _ _ c.from_residual.result c.from_residual.ensures.1 }

pub branches_json-returns-in_err-push : goal.branches_json-returns-in_err-push
branches_json-returns-in_err-push g t c = record { written = none_written _ _ c.from_residual-in_err-push.result c.from_residual-in_err-push.ensures.1; ranges = none_ranges _ _ c.from_residual-in_err-push.result c.from_residual-in_err-push.ensures.1 }
