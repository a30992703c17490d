use Rattle.std.proofs.Math.Nat.{le_of_lt}
use borrow.Author.Count.{falls}
use Rattle.refutation.proofs.InRange.{ranges_step, pick_in_range, match_in_range}
use Rattle.refutation.proofs.Rules.{branch_below, pick_below, match_below, open_below, left_below, right_below}
use Rattle.plan.proofs.Rooms.{dead_ranges, clash_ranges, open_ranges, split_ranges, all_in_range}
use Rattle.plan.proofs.sizes.+size.Goals as goal
use Rattle.std.proofs.Common.{rules}

pub with_rule-returns-in-Dead : goal.with_rule-returns-in-Dead
with_rule-returns-in-Dead g t c = dead_ranges c.args.rule.now c.in-Dead.side c.in-Dead.item c.in-Dead.is c.with_item.ensures

pub with_rule-returns-in-Clash : goal.with_rule-returns-in-Clash
with_rule-returns-in-Clash g t c = clash_ranges c.args.rule.now c.in-Clash.left c.in-Clash.right c.in-Clash.is c.with_item-in-Clash.ensures c.with_item-in-Clash-2.ensures

pub with_rule-returns-in-Open : goal.with_rule-returns-in-Open
with_rule-returns-in-Open g t c = open_ranges c.args.rule.now c.in-Open.side c.in-Open.item c.in-Open.then c.deref.result.now c.in-Open.is c.deref.ensures c.with_item-in-Open.ensures c.with_rule.ensures

pub with_rule-returns-in-Pick : goal.with_rule-returns-in-Pick
with_rule-returns-in-Pick g t c = search (rules, c.in-Pick.is, c.deref-in-Pick.ensures.value, c.deref-in-Pick-2.ensures.value, c.with_item-in-Pick.ensures, c.with_children.ensures, c.with_branches.ensures, pick_in_range)

pub with_rule-returns-in-Match : goal.with_rule-returns-in-Match
with_rule-returns-in-Match g t c = search (rules, c.in-Match.is, c.deref-in-Match.ensures.value, c.deref-in-Match-2.ensures.value, c.with_item-in-Match.ensures, c.with_item-room.ensures, c.with_pairs.ensures, c.with_branches-in-Match.ensures, match_in_range)

pub with_branches-loop-branch-preserved : goal.with_branches-loop-branch-preserved
with_branches-loop-branch-preserved g t c = λ after. c.loop-branch.invariant (ranges_step c.args.then.now c.loop-branch.branch-index c.branch-item.result c.loop-branch-test.true c.branch-item.is c.with_rule-room.ensures after)

pub with_branches-returns : goal.with_branches-returns
with_branches-returns g t c = all_in_range c.args.then.now c.loop-branch.branch-index c.loop-branch-test.false c.loop-branch.invariant

pub with_branches-loop-branch-smaller : goal.with_branches-loop-branch-smaller
with_branches-loop-branch-smaller g t c = falls _ _ c.loop-branch-test.true

pub with_branches-bounds-then-branch-index : goal.with_branches-bounds-then-branch-index
with_branches-bounds-then-branch-index g t c = c.loop-branch-test.true

pub with_branches-offset_bounds-then-branch-index : goal.with_branches-offset_bounds-then-branch-index
with_branches-offset_bounds-then-branch-index g t c = le_of_lt c.loop-branch-test.true

pub with_branches-with_rule-room-requires : goal.with_branches-with_rule-room-requires
with_branches-with_rule-room-requires g t c κs within = (branch_below c.args.then.now c.loop-branch.branch-index t c.branch-item.result c.loop-branch-test.true c.branch-item.is c.decreases, within)

pub with_rule-with_branches-requires : goal.with_rule-with_branches-requires
with_rule-with_branches-requires g t c κs within = (pick_below c.args.rule.now c.in-Pick.side c.in-Pick.item t c.in-Pick.children c.in-Pick.then c.deref-in-Pick-2.result.now c.in-Pick.is c.deref-in-Pick-2.ensures.value c.decreases, within)

pub with_rule-returns-in-Split : goal.with_rule-returns-in-Split
with_rule-returns-in-Split g t c = search (rules, c.in-Split.is, c.deref-in-Split.ensures, c.deref-in-Split-2.ensures, c.with_rule-in-Split.ensures, c.with_rule-in-Split-2.ensures, split_ranges)

pub with_rule-with_branches-requires-in-Match : goal.with_rule-with_branches-requires-in-Match
with_rule-with_branches-requires-in-Match g t c κs within = (match_below c.args.rule.now c.in-Match.left c.in-Match.right t c.in-Match.pairs c.in-Match.then c.deref-in-Match-2.result.now c.in-Match.is c.deref-in-Match-2.ensures.value c.decreases, within)

pub with_rule-with_rule-requires : goal.with_rule-with_rule-requires
with_rule-with_rule-requires g t c κs within = (open_below c.args.rule.now c.in-Open.side c.in-Open.item t c.in-Open.then c.deref.result.now c.in-Open.is c.deref.ensures c.decreases, within)

pub with_rule-with_rule-requires-in-Split : goal.with_rule-with_rule-requires-in-Split
with_rule-with_rule-requires-in-Split g t c κs within = (left_below c.args.rule.now c.in-Split.member t c.in-Split.left c.in-Split.right c.deref-in-Split.result.now c.in-Split.is c.deref-in-Split.ensures c.decreases, within)

pub with_rule-with_rule-requires-in-Split-2 : goal.with_rule-with_rule-requires-in-Split-2
with_rule-with_rule-requires-in-Split-2 g t c κs within = (right_below c.args.rule.now c.in-Split.member t c.in-Split.left c.in-Split.right c.deref-in-Split-2.result.now c.in-Split.is c.deref-in-Split-2.ensures c.decreases, within)
