use Rattle.std.proofs.Common.{◌+◌, ◌-◌, ◌∙◌, refl, ap, map, drop, falls}
use Rattle.std.proofs.Math.Nat.{le_of_lt, le_refl}
use Rattle.refutation.specs.Common.{branches_of, branch_depth, rule_of}
use Rattle.cert_search.specs.Lengths.{branches_length}
use Rattle.refutation.proofs.Rules.{depth_step, branch_below, pick_below, match_below, open_below, left_below}
use Rattle.cert_search.proofs.Rooms.{length_step, all_taken, behind_open, behind_pick, behind_match}
use Rattle.cert_search.proofs.lengths.+length.Goals as goal

pub behind_branches-loop-branch-preserved : goal.behind_branches-loop-branch-preserved
behind_branches-loop-branch-preserved g t c = record {
  room = ap (λ n. n - branches_length (branches_of (map rule_of (drop (c.loop-branch.branch-index + 1) c.args.branches.now)))) c.behind_rule-left.ensures
      ∙ length_step c.args.branches.now c.loop-branch.branch-index c.loop-branch.left c.branch-item.result c.loop-branch-test.true c.branch-item.is ∙ c.loop-branch.invariant.room;
  depth = (depth_step c.args.branches.now c.loop-branch.branch-index (branch_depth (branches_of (map rule_of c.args.branches.now))) c.branch-item.result c.loop-branch-test.true c.branch-item.is c.loop-branch.invariant.depth).1;
}

pub behind_branches-behind_rule-left-requires : goal.behind_branches-behind_rule-left-requires
behind_branches-behind_rule-left-requires g t c κs within = (branch_below c.args.branches.now c.loop-branch.branch-index t c.branch-item.result c.loop-branch-test.true c.branch-item.is c.decreases, within)

pub behind_branches-loop-branch-init : goal.behind_branches-loop-branch-init
behind_branches-loop-branch-init g t c = record { room = refl; depth = le_refl _ }

pub behind_branches-loop-branch-smaller : goal.behind_branches-loop-branch-smaller
behind_branches-loop-branch-smaller g t c = falls _ _ c.loop-branch-test.true

pub behind_branches-offset_bounds-branches-branch-index : goal.behind_branches-offset_bounds-branches-branch-index
behind_branches-offset_bounds-branches-branch-index g t c = le_of_lt c.loop-branch-test.true

pub behind_branches-returns : goal.behind_branches-returns
behind_branches-returns g t c = all_taken c.args.branches.now c.loop-branch.branch-index c.loop-branch.left _ c.loop-branch-test.false c.loop-branch.invariant.room

pub behind_rule-behind_branches-requires : goal.behind_rule-behind_branches-requires
behind_rule-behind_branches-requires g t c κs within = (pick_below c.args.rule.now c.in-Pick.side c.in-Pick.item t c.in-Pick.children c.in-Pick.then c.deref-in-Pick.result.now c.in-Pick.is c.deref-in-Pick.ensures.value c.decreases, within)

pub behind_rule-behind_branches-requires-in-Match : goal.behind_rule-behind_branches-requires-in-Match
behind_rule-behind_branches-requires-in-Match g t c κs within = (match_below c.args.rule.now c.in-Match.left c.in-Match.right t c.in-Match.pairs c.in-Match.then c.deref-in-Match.result.now c.in-Match.is c.deref-in-Match.ensures.value c.decreases, within)

pub behind_rule-behind_rule-requires : goal.behind_rule-behind_rule-requires
behind_rule-behind_rule-requires g t c κs within = (open_below c.args.rule.now c.in-Open.side c.in-Open.item t c.in-Open.then c.deref.result.now c.in-Open.is c.deref.ensures c.decreases, within)

pub behind_rule-behind_rule-requires-in-Split : goal.behind_rule-behind_rule-requires-in-Split
behind_rule-behind_rule-requires-in-Split g t c κs within = (left_below c.args.rule.now c.in-Split.member t c.in-Split.left c.in-Split.right c.deref-in-Split-2.result.now c.in-Split.is c.deref-in-Split-2.ensures c.decreases, within)

pub behind_rule-returns-in-Open : goal.behind_rule-returns-in-Open
behind_rule-returns-in-Open g t c = behind_open c.args.rule.now c.in-Open.side c.in-Open.item c.in-Open.then c.deref.result.now _ _ c.args.room c.in-Open.is c.deref.ensures c.behind_rule.ensures c.behind_head-room.ensures

pub behind_rule-returns-in-Pick : goal.behind_rule-returns-in-Pick
behind_rule-returns-in-Pick g t c = behind_pick c.args.rule.now c.in-Pick.side c.in-Pick.item c.in-Pick.children c.in-Pick.then c.deref-in-Pick.result.now _ _ c.args.room c.in-Pick.is c.deref-in-Pick.ensures.value c.behind_branches.ensures c.behind_head-room.ensures

pub behind_rule-returns-in-Match : goal.behind_rule-returns-in-Match
behind_rule-returns-in-Match g t c = behind_match c.args.rule.now c.in-Match.left c.in-Match.right c.in-Match.pairs c.in-Match.then c.deref-in-Match.result.now _ _ c.args.room c.in-Match.is c.deref-in-Match.ensures.value c.behind_branches-in-Match.ensures c.behind_head-room.ensures
