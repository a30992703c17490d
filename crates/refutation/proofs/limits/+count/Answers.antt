use Rattle.std.proofs.Common.{◌+◌, ◌-◌, ◌∙◌, refl, ap, map, drop, falls}
use Rattle.std.proofs.Math.Nat.{le_of_lt, le_refl}
use Rattle.refutation.specs.Rule.{branches_of, branch_depth}
use Rattle.refutation.specs.Refutation.{rule_of}
use Rattle.refutation.specs.Limits.{branch_nodes}
use Rattle.refutation.proofs.Rules.{depth_step, branch_below, pick_below, match_below, open_below, left_below}
use Rattle.refutation.proofs.Walks.{nodes_step, all_taken, opened_room, picked_room, matched_room}
use Rattle.refutation.proofs.limits.+count.Goals as goal

pub room_after_each-loop-branch-preserved : goal.room_after_each-loop-branch-preserved
room_after_each-loop-branch-preserved g t c = record {
  room = ap (λ n. n - branch_nodes (branches_of (map rule_of (drop (c.loop-branch.branch-index + 1) c.args.branches.now)))) c.room_after-left.ensures
      ∙ nodes_step c.args.branches.now c.loop-branch.branch-index c.loop-branch.left c.branch-item.result c.loop-branch-test.true c.branch-item.is ∙ c.loop-branch.invariant.room;
  depth = (depth_step c.args.branches.now c.loop-branch.branch-index (branch_depth (branches_of (map rule_of c.args.branches.now))) c.branch-item.result c.loop-branch-test.true c.branch-item.is c.loop-branch.invariant.depth).1;
}

pub room_after_each-room_after-left-requires : goal.room_after_each-room_after-left-requires
room_after_each-room_after-left-requires g t c κs within = (branch_below c.args.branches.now c.loop-branch.branch-index t c.branch-item.result c.loop-branch-test.true c.branch-item.is c.decreases, within)

pub room_after_each-loop-branch-init : goal.room_after_each-loop-branch-init
room_after_each-loop-branch-init g t c = record { room = refl; depth = le_refl _ }

pub room_after_each-loop-branch-smaller : goal.room_after_each-loop-branch-smaller
room_after_each-loop-branch-smaller g t c = falls _ _ c.loop-branch-test.true

pub room_after_each-offset_bounds-branches-branch-index : goal.room_after_each-offset_bounds-branches-branch-index
room_after_each-offset_bounds-branches-branch-index g t c = le_of_lt c.loop-branch-test.true

pub room_after_each-returns : goal.room_after_each-returns
room_after_each-returns g t c = all_taken c.args.branches.now c.loop-branch.branch-index c.loop-branch.left _ c.loop-branch-test.false c.loop-branch.invariant.room

pub room_after-room_after_each-requires : goal.room_after-room_after_each-requires
room_after-room_after_each-requires g t c κs within = (pick_below c.args.rule.now c.in-Pick.side c.in-Pick.item t c.in-Pick.children c.in-Pick.then c.deref-in-Pick.result.now c.in-Pick.is c.deref-in-Pick.ensures.value c.decreases, within)

pub room_after-room_after_each-requires-in-Match : goal.room_after-room_after_each-requires-in-Match
room_after-room_after_each-requires-in-Match g t c κs within = (match_below c.args.rule.now c.in-Match.left c.in-Match.right t c.in-Match.pairs c.in-Match.then c.deref-in-Match.result.now c.in-Match.is c.deref-in-Match.ensures.value c.decreases, within)

pub room_after-room_after-requires : goal.room_after-room_after-requires
room_after-room_after-requires g t c κs within = (open_below c.args.rule.now c.in-Open.side c.in-Open.item t c.in-Open.then c.deref.result.now c.in-Open.is c.deref.ensures c.decreases, within)

pub room_after-room_after-requires-in-Split : goal.room_after-room_after-requires-in-Split
room_after-room_after-requires-in-Split g t c κs within = (left_below c.args.rule.now c.in-Split.member t c.in-Split.left c.in-Split.right c.deref-in-Split-2.result.now c.in-Split.is c.deref-in-Split-2.ensures c.decreases, within)

pub room_after-returns-in-Open : goal.room_after-returns-in-Open
room_after-returns-in-Open g t c = opened_room c.args.rule.now c.in-Open.side c.in-Open.item c.in-Open.then c.deref.result.now _ _ c.args.room c.in-Open.is c.deref.ensures c.room_after.ensures c.saturating_sub-room.ensures

pub room_after-returns-in-Pick : goal.room_after-returns-in-Pick
room_after-returns-in-Pick g t c = picked_room c.args.rule.now c.in-Pick.side c.in-Pick.item c.in-Pick.children c.in-Pick.then c.deref-in-Pick.result.now _ _ c.args.room c.in-Pick.is c.deref-in-Pick.ensures.value c.room_after_each.ensures c.saturating_sub-room.ensures

pub room_after-returns-in-Match : goal.room_after-returns-in-Match
room_after-returns-in-Match g t c = matched_room c.args.rule.now c.in-Match.left c.in-Match.right c.in-Match.pairs c.in-Match.then c.deref-in-Match.result.now _ _ c.args.room c.in-Match.is c.deref-in-Match.ensures.value c.room_after_each-in-Match.ensures c.saturating_sub-room.ensures
