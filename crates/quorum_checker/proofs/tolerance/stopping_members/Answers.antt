use Rattle.std.proofs.Common.{◌∙◌, sym}
use Rattle.quorum_expr.specs.Common.{formula_of}
use Rattle.quorum_checker.specs.Tolerance.{is_stopping}
use Rattle.quorum_checker.proofs.Losses.{put_start, put_one, put_none}
use Rattle.quorum_checker.proofs.tolerance.stopping_members.Goals as goal
use Rattle.quorum_checker.proofs.tolerance.stopping_members.Goals.{then-is_critical, else-is_critical}

pub loop-member-init : goal.loop-member-init
loop-member-init g c = put_start c.empty-stopping.result (is_stopping (formula_of c.args.expr.now) c.args.members) c.empty-stopping.ensures

pub loop-member-preserved : goal.loop-member-preserved
loop-member-preserved g c = elim c.if-is_critical.branch [
  | then-is_critical w ↦ put_one c.loop-member.stopping c.if-is_critical.stopping c.loop-member.member (is_stopping (formula_of c.args.expr.now) c.args.members) (w.stopping-is ∙ w.with-stopping.ensures) c.loop-member.invariant (sym c.is_critical.ensures ∙ w.if-is_critical.true)
  | else-is_critical w ↦ rw w.stopping-is (put_none c.loop-member.stopping c.loop-member.member (is_stopping (formula_of c.args.expr.now) c.args.members) c.loop-member.invariant (sym c.is_critical.ensures ∙ w.if-is_critical.false))
]
