use Rattle.std.proofs.Common.{◌++◌, ◌≡◌, ◌+◌, ◌*◌, ◌<◌, ◌≤◌, ◌∙◌, ap, sym, subst, map, arith, Ok, falls}
use Rattle.std.proofs.Math.Nat.{le_of_lt, le_refl}
use Rattle.volume_model.specs.Common.{Gives}
use Rattle.quorum_expr.proofs.Handed.{wants, handed}
use Rattle.quorum_expr.proofs.Rebuilt.{pushed, finish}
use Rattle.refutation.specs.Rule.{open_all, pick, pair_up, split, branches_of, branch_depth, depth_of}
use Rattle.refutation.specs.Refutation.{rule_of}
use Rattle.refutation.specs.Forms.{rules_of}
use Rattle.refutation.proofs.Rules.{rule_of-Open, rule_of-Pick, rule_of-Match, rule_of-Split, depth_step, open_below, left_below}
use Rattle.refutation.proofs.Copied.{given, all_given, dead-copied, clash-copied, pick-copied, match-copied}
use Rattle.refutation.proofs.copying.+copy.Goals as goal

pub copy_tree-copy_branches-requires : goal.copy_tree-copy_branches-requires
copy_tree-copy_branches-requires g t c κs within =
    let spelt : rule_of c.args.rule.now ≡ pick c.in-Pick.side c.in-Pick.item c.in-Pick.children.items (branches_of (map rule_of c.deref-in-Pick.result.now)) =
    ap rule_of c.in-Pick.is ∙ rule_of-Pick _ _ _ _ ∙ ap (λ rs. pick c.in-Pick.side c.in-Pick.item c.in-Pick.children.items (branches_of (map rule_of rs))) (sym c.deref-in-Pick.ensures.value) in
    let small : 2 * branch_depth (branches_of (map rule_of c.deref-in-Pick.result.now)) + 1 < t = omega (arith, ap depth_of spelt, c.decreases) in
    (small, within)

pub copy_tree-copy_branches-requires-in-Match : goal.copy_tree-copy_branches-requires-in-Match
copy_tree-copy_branches-requires-in-Match g t c κs within =
    let spelt : rule_of c.args.rule.now ≡ pair_up c.in-Match.left c.in-Match.right c.in-Match.pairs.items (branches_of (map rule_of c.deref-in-Match.result.now)) =
    ap rule_of c.in-Match.is ∙ rule_of-Match _ _ _ _ ∙ ap (λ rs. pair_up c.in-Match.left c.in-Match.right c.in-Match.pairs.items (branches_of (map rule_of rs))) (sym c.deref-in-Match.ensures.value) in
    let small : 2 * branch_depth (branches_of (map rule_of c.deref-in-Match.result.now)) + 1 < t = omega (arith, ap depth_of spelt, c.decreases) in
    (small, within)

pub copy_branches-copy_tree-requires : goal.copy_branches-copy_tree-requires
copy_branches-copy_tree-requires g t c κs within =
    let deep : depth_of (rule_of c.rule-item.result) ≤ branch_depth (branches_of (map rule_of c.args.then.now)) = (depth_step c.args.then.now c.loop-rule.rule-index (branch_depth (branches_of (map rule_of c.args.then.now))) c.rule-item.result c.loop-rule-test.true c.rule-item.is c.loop-rule.invariant.depth).0 in
    let small : 2 * depth_of (rule_of c.rule-item.result) < t = omega (arith, deep, c.decreases) in
    (small, within)

pub copy_branches-loop-rule-preserved : goal.copy_branches-loop-rule-preserved
copy_branches-loop-rule-preserved g t c =
    let same : rule_of c.in_ok-copy_tree.field-0 ≡ rule_of c.rule-item.result = given _ _ c.in_ok-copy_tree.ensures in
    record {
      copied = pushed rule_of rule_of c.args.then.now c.loop-rule.rule-index c.rule-item.result _ _ _ _ c.in_ok-push.ensures.items same c.loop-rule-test.true c.rule-item.is c.loop-rule.invariant.copied;
      depth = (depth_step c.args.then.now c.loop-rule.rule-index (branch_depth (branches_of (map rule_of c.args.then.now))) c.rule-item.result c.loop-rule-test.true c.rule-item.is c.loop-rule.invariant.depth).1;
    }

pub copy_tree-returns-in_ok-copies-in-Pick : goal.copy_tree-returns-in_ok-copies-in-Pick
copy_tree-returns-in_ok-copies-in-Pick g t c =
    let got : rules_of c.deref-in-Pick.result.now ≡ rules_of c.in_ok-copies-in-Pick.copies.items = all_given _ _ c.in_ok-copies-in-Pick.ensures in
    subst (λ r. Gives rule_of c.copy_pick.result (Ok r))
    (ap (λ ns. pick c.in-Pick.side c.in-Pick.item ns (branches_of (rules_of c.in_ok-copies-in-Pick.copies.items))) c.deref-in-Pick-2.ensures.value
    ∙ sym (pick-copied c.in-Pick.side c.in-Pick.item c.in-Pick.children c.in-Pick.then c.args.rule.now c.in_ok-copies-in-Pick.copies.items c.in-Pick.is (ap rules_of (sym c.deref-in-Pick.ensures.value) ∙ got)))
    c.copy_pick.ensures

pub copy_tree-returns-in_ok-copies-in-Match : goal.copy_tree-returns-in_ok-copies-in-Match
copy_tree-returns-in_ok-copies-in-Match g t c =
    let got : rules_of c.deref-in-Match.result.now ≡ rules_of c.in_ok-copies-in-Match.copies.items = all_given _ _ c.in_ok-copies-in-Match.ensures in
    subst (λ r. Gives rule_of c.copy_match.result (Ok r))
    (ap (λ ns. pair_up c.in-Match.left c.in-Match.right ns (branches_of (rules_of c.in_ok-copies-in-Match.copies.items))) c.deref-in-Match-2.ensures.value
    ∙ sym (match-copied c.in-Match.left c.in-Match.right c.in-Match.pairs c.in-Match.then c.args.rule.now c.in_ok-copies-in-Match.copies.items c.in-Match.is (ap rules_of (sym c.deref-in-Match.ensures.value) ∙ got)))
    c.copy_match.ensures

pub copy_tree-returns-in-Dead : goal.copy_tree-returns-in-Dead
copy_tree-returns-in-Dead g t c = ap Ok (dead-copied _ c.args.rule.now c.in-Dead.side c.in-Dead.item c.in-Dead.is)

pub copy_tree-returns-in-Clash : goal.copy_tree-returns-in-Clash
copy_tree-returns-in-Clash g t c = ap Ok (clash-copied _ c.args.rule.now c.in-Clash.left c.in-Clash.right c.in-Clash.is)

pub copy_tree-returns-in_err-copy-in-Open : goal.copy_tree-returns-in_err-copy-in-Open
copy_tree-returns-in_err-copy-in-Open g t c = handed rule_of c.from_residual.result _ _ _ c.in_err-copy-in-Open.ensures c.from_residual.ensures.1

pub copy_tree-returns-in_err-copies-in-Pick : goal.copy_tree-returns-in_err-copies-in-Pick
copy_tree-returns-in_err-copies-in-Pick g t c = handed rule_of c.from_residual-in_err-copies-in-Pick.result _ _ _ c.in_err-copies-in-Pick.ensures c.from_residual-in_err-copies-in-Pick.ensures.1

pub copy_tree-returns-in_err-copies-in-Match : goal.copy_tree-returns-in_err-copies-in-Match
copy_tree-returns-in_err-copies-in-Match g t c = handed rule_of c.from_residual-in_err-copies-in-Match.result _ _ _ c.in_err-copies-in-Match.ensures c.from_residual-in_err-copies-in-Match.ensures.1

pub copy_tree-returns-in_err-first-in-Split : goal.copy_tree-returns-in_err-first-in-Split
copy_tree-returns-in_err-first-in-Split g t c = handed rule_of c.from_residual-in_err-first-in-Split.result _ _ _ c.in_err-first-in-Split.ensures c.from_residual-in_err-first-in-Split.ensures.1

pub copy_tree-returns-in_err-second-in-Split : goal.copy_tree-returns-in_err-second-in-Split
copy_tree-returns-in_err-second-in-Split g t c = handed rule_of c.from_residual-in_err-second-in-Split.result _ _ _ c.in_err-second-in-Split.ensures c.from_residual-in_err-second-in-Split.ensures.1

pub copy_branches-returns-in_err-clone : goal.copy_branches-returns-in_err-clone
copy_branches-returns-in_err-clone g t c = wants (λ v. rules_of v.items) c.from_residual.result _ c.from_residual.ensures.1

pub copy_branches-returns-in_err-push : goal.copy_branches-returns-in_err-push
copy_branches-returns-in_err-push g t c = wants (λ v. rules_of v.items) c.from_residual-in_err-push.result _ c.from_residual-in_err-push.ensures.1

pub copy_branches-returns-in_err-copy_tree : goal.copy_branches-returns-in_err-copy_tree
copy_branches-returns-in_err-copy_tree g t c = handed (λ v. rules_of v.items) c.from_residual-in_err-copy_tree.result _ _ _ c.in_err-copy_tree.ensures c.from_residual-in_err-copy_tree.ensures.1

pub copy_branches-loop-rule-init : goal.copy_branches-loop-rule-init
copy_branches-loop-rule-init g t c = record { copied = ap (λ xs. rules_of xs ++ rules_of c.args.then.now) c.new-copies.ensures.items; depth = le_refl _ }

pub copy_branches-bounds-then-rule-index : goal.copy_branches-bounds-then-rule-index
copy_branches-bounds-then-rule-index g t c = c.loop-rule-test.true

pub copy_branches-offset_bounds-then-rule-index : goal.copy_branches-offset_bounds-then-rule-index
copy_branches-offset_bounds-then-rule-index g t c = le_of_lt c.loop-rule-test.true

pub copy_branches-loop-rule-smaller : goal.copy_branches-loop-rule-smaller
copy_branches-loop-rule-smaller g t c = falls _ _ c.loop-rule-test.true

pub copy_branches-returns : goal.copy_branches-returns
copy_branches-returns g t c = ap Ok (sym (finish rule_of _ _ _ _ c.loop-rule-test.false c.loop-rule.invariant.copied))

pub copy_tree-returns-in_ok-copy-in-Open : goal.copy_tree-returns-in_ok-copy-in-Open
copy_tree-returns-in_ok-copy-in-Open g t c =
    subst (λ r. Gives rule_of c.copy_open.result (Ok r))
    (ap (open_all c.in-Open.side c.in-Open.item) (given _ _ c.in_ok-copy-in-Open.ensures ∙ ap rule_of c.deref.ensures)
    ∙ sym (ap rule_of c.in-Open.is ∙ rule_of-Open c.in-Open.side c.in-Open.item c.in-Open.then))
    c.copy_open.ensures

pub copy_tree-returns-in_ok-second-in-Split : goal.copy_tree-returns-in_ok-second-in-Split
copy_tree-returns-in_ok-second-in-Split g t c =
    subst (λ r. Gives rule_of c.copy_split.result (Ok r))
    ((λ i. split c.in-Split.member ((given _ _ c.in_ok-first-in-Split.ensures ∙ ap rule_of c.deref-in-Split.ensures) i) ((given _ _ c.in_ok-second-in-Split.ensures ∙ ap rule_of c.deref-in-Split-2.ensures) i))
    ∙ sym (ap rule_of c.in-Split.is ∙ rule_of-Split c.in-Split.member c.in-Split.left c.in-Split.right))
    c.copy_split.ensures

pub copy_tree-copy_tree-requires : goal.copy_tree-copy_tree-requires
copy_tree-copy_tree-requires g t c κs within = (open_below c.args.rule.now c.in-Open.side c.in-Open.item t c.in-Open.then c.deref.result.now c.in-Open.is c.deref.ensures c.decreases, within)

pub copy_tree-copy_tree-requires-in-Split : goal.copy_tree-copy_tree-requires-in-Split
copy_tree-copy_tree-requires-in-Split g t c κs within = (left_below c.args.rule.now c.in-Split.member t c.in-Split.left c.in-Split.right c.deref-in-Split.result.now c.in-Split.is c.deref-in-Split.ensures c.decreases, within)
