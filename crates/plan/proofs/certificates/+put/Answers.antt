use Rattle.std.proofs.Common.{subst, falls}
use Rattle.std.proofs.Math.Nat.{le_of_lt}
use Rattle.refutation.proofs.Rules.{branch_below, pick_below, match_below, open_below, left_below, right_below}
use Rattle.plan.specs.Puts.{Puts}
use Rattle.plan.specs.Rules.{rule_data}
use Rattle.plan.proofs.Branches.{joined-rules}
use Rattle.plan.proofs.PutRules.{dead_put, clash_put, open_put, pick_put, match_put, split_put}
use Rattle.plan.proofs.Putting.{then_put, listing, one_of, all_of}
use Rattle.plan.proofs.certificates.+put.Goals as goal
use Rattle.std.proofs.Common.{rules}

pub put_rule-returns-in-Dead : goal.put_rule-returns-in-Dead
put_rule-returns-in-Dead g t c = then_put c.put_dead.result c.put_dead.ensures (dead_put c.args.rule.now c.in-Dead.side c.in-Dead.item c.args.writer.now c.put_dead.new.writer c.in-Dead.is)

pub put_rule-returns-in-Clash : goal.put_rule-returns-in-Clash
put_rule-returns-in-Clash g t c = then_put c.put_clash.result c.put_clash.ensures (clash_put c.args.rule.now c.in-Clash.left c.in-Clash.right c.args.writer.now c.put_clash.new.writer c.in-Clash.is)

pub put_rule-returns-in_ok-put_rule-in-Open : goal.put_rule-returns-in_ok-put_rule-in-Open
put_rule-returns-in_ok-put_rule-in-Open g t c = search (rules, c.close_object.ensures, c.in-Open.is, c.deref.ensures, c.in_ok-begin_open-in-Open.ensures, c.in_ok-put_rule-in-Open.ensures, then_put, open_put)

pub put_rule-returns-in_ok-put_branches-in-Pick : goal.put_rule-returns-in_ok-put_branches-in-Pick
put_rule-returns-in_ok-put_branches-in-Pick g t c = search (rules, c.close_object-in-Pick.ensures, c.in-Pick.is, c.deref-in-Pick.ensures.value, c.deref-in-Pick-2.ensures.value, c.in_ok-begin_pick-in-Pick.ensures, c.in_ok-put_branches-in-Pick.ensures, then_put, pick_put)

pub put_rule-returns-in_ok-put_branches-in-Match : goal.put_rule-returns-in_ok-put_branches-in-Match
put_rule-returns-in_ok-put_branches-in-Match g t c = search (rules, c.close_object-in-Match.ensures, c.in-Match.is, c.deref-in-Match.ensures.value, c.deref-in-Match-2.ensures.value, c.in_ok-begin_match-in-Match.ensures, c.in_ok-put_branches-in-Match.ensures, then_put, match_put)

pub put_rule-returns-in_ok-put_rule-in-Split-2 : goal.put_rule-returns-in_ok-put_rule-in-Split-2
put_rule-returns-in_ok-put_rule-in-Split-2 g t c = search (rules, c.end_split.ensures, c.in-Split.is, c.deref-in-Split.ensures, c.deref-in-Split-2.ensures, c.in_ok-begin_split-in-Split.ensures, c.in_ok-put_rule-in-Split.ensures, c.in_ok-put_split_member-in-Split.ensures, c.in_ok-put_rule-in-Split-2.ensures, then_put, split_put)

pub put_branches-loop-branch-init : goal.put_branches-loop-branch-init
put_branches-loop-branch-init g t c = listing c.args.writer.now c.open_array.new.writer c.in_ok-open_array.ensures

pub put_branches-loop-branch-preserved : goal.put_branches-loop-branch-preserved
put_branches-loop-branch-preserved g t c =
    one_of rule_data c.args.then.now c.loop-branch.branch-index c.branch-item.result c.args.writer.now c.loop-branch.writer c.put_rule.new.writer c.loop-branch-test.true c.loop-branch.invariant (subst (λ r. Puts (rule_data r) c.loop-branch.writer c.put_rule.new.writer) c.branch-item.is c.in_ok-put_rule.ensures)

pub put_branches-returns : goal.put_branches-returns
put_branches-returns g t c = search (rules, c.close_array.ensures, c.loop-branch.branch-index, c.loop-branch-test.false, c.loop-branch.invariant, then_put, all_of, joined-rules)

pub put_branches-loop-branch-smaller : goal.put_branches-loop-branch-smaller
put_branches-loop-branch-smaller g t c = falls _ _ c.loop-branch-test.true

pub put_branches-bounds-then-branch-index : goal.put_branches-bounds-then-branch-index
put_branches-bounds-then-branch-index g t c = c.loop-branch-test.true

pub put_branches-offset_bounds-then-branch-index : goal.put_branches-offset_bounds-then-branch-index
put_branches-offset_bounds-then-branch-index g t c = le_of_lt c.loop-branch-test.true

pub put_branches-put_rule-requires : goal.put_branches-put_rule-requires
put_branches-put_rule-requires g t c κs within = (branch_below c.args.then.now c.loop-branch.branch-index t c.branch-item.result c.loop-branch-test.true c.branch-item.is c.decreases, within)

pub put_rule-put_rule-requires : goal.put_rule-put_rule-requires
put_rule-put_rule-requires g t c κs within = (open_below c.args.rule.now c.in-Open.side c.in-Open.item t c.in-Open.then c.deref.result.now c.in-Open.is c.deref.ensures c.decreases, within)

pub put_rule-put_branches-requires : goal.put_rule-put_branches-requires
put_rule-put_branches-requires g t c κs within = (pick_below c.args.rule.now c.in-Pick.side c.in-Pick.item t c.in-Pick.children c.in-Pick.then c.deref-in-Pick-2.result.now c.in-Pick.is c.deref-in-Pick-2.ensures.value c.decreases, within)

pub put_rule-put_branches-requires-in-Match : goal.put_rule-put_branches-requires-in-Match
put_rule-put_branches-requires-in-Match g t c κs within = (match_below c.args.rule.now c.in-Match.left c.in-Match.right t c.in-Match.pairs c.in-Match.then c.deref-in-Match-2.result.now c.in-Match.is c.deref-in-Match-2.ensures.value c.decreases, within)

pub put_rule-put_rule-requires-in-Split : goal.put_rule-put_rule-requires-in-Split
put_rule-put_rule-requires-in-Split g t c κs within = (left_below c.args.rule.now c.in-Split.member t c.in-Split.left c.in-Split.right c.deref-in-Split.result.now c.in-Split.is c.deref-in-Split.ensures c.decreases, within)

pub put_rule-put_rule-requires-in-Split-2 : goal.put_rule-put_rule-requires-in-Split-2
put_rule-put_rule-requires-in-Split-2 g t c κs within = (right_below c.args.rule.now c.in-Split.member t c.in-Split.left c.in-Split.right c.deref-in-Split-2.result.now c.in-Split.is c.deref-in-Split-2.ensures c.decreases, within)
