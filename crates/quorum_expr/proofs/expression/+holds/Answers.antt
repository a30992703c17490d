use Rattle.std.proofs.Common.{◌≡◌, ◌∙◌, refl, sym, falls}
use Rattle.std.proofs.Math.Nat.{le_of_lt}
use Rattle.std.specs.FinSet as set
use Rattle.volume_model.specs.Common.{sat}
use Rattle.quorum_expr.specs.Expr.{formula_of}
use Rattle.quorum_expr.proofs.Held.{missing_less, missing_same, sat-Member, sat-KOf}
use Rattle.quorum_expr.proofs.Smaller.{smaller}
use Rattle.quorum_expr.proofs.expression.+holds.Goals as goal
use Rattle.quorum_expr.proofs.expression.+holds.Goals.{in-Member-child, in-KOf-child, then-is_held, else-is_held}
use Rattle.std.proofs.Common.{rules}

pub returns-in-Member : goal.returns-in-Member
returns-in-Member g t c = c.contains.ensures.is_in ∙ sym (sat-Member c.args.expr.now c.in-Member.member (set.contains c.args.members) c.in-Member.is)

pub loop-weight-init : goal.loop-weight-init
loop-weight-init g t c = refl

pub offset_bounds-weight-items-weight-index : goal.offset_bounds-weight-items-weight-index
offset_bounds-weight-items-weight-index g t c = le_of_lt c.loop-weight-test.true

pub holds-is_held-requires : goal.holds-is_held-requires
holds-is_held-requires g t c κs within = search (rules, c.in-KOf.is, c.deref-weight-items.ensures.value, c.loop-weight-test.true, c.loop-weight-item.is, smaller)

pub loop-weight-smaller : goal.loop-weight-smaller
loop-weight-smaller g t c = falls _ _ c.loop-weight-test.true

pub loop-weight-preserved : goal.loop-weight-preserved
loop-weight-preserved g t c =
    let holds_so : sat (formula_of c.loop-weight-item.result.1) (set.contains c.args.members) ≡ c.match-child.is_held = elim c.match-child.branch [
      | in-Member-child w ↦ sat-Member c.loop-weight-item.result.1 w.in-Member-child.member (set.contains c.args.members) w.in-Member-child.is ∙ sym (w.is_held-is ∙ w.contains-is_held.ensures.is_in)
      | in-KOf-child w ↦ sym (w.is_held-is ∙ w.holds-is_held.ensures)
    ] in
    elim c.if-is_held.branch [
      | then-is_held w ↦ missing_less c.deref-weight-items.result.now c.loop-weight.weight-index c.loop-weight-item.result (set.contains c.args.members) _ _ w.from.result _ c.loop-weight-test.true c.loop-weight-item.is (holds_so ∙ w.if-is_held.true) (w.missing-is ∙ w.saturating_sub-missing.ensures) w.from.ensures c.loop-weight.invariant
      | else-is_held w ↦ missing_same c.deref-weight-items.result.now c.loop-weight.weight-index c.loop-weight-item.result (set.contains c.args.members) _ _ _ c.loop-weight-test.true c.loop-weight-item.is (holds_so ∙ w.if-is_held.false) w.missing-is c.loop-weight.invariant
    ]

pub returns-after-loop-weight : goal.returns-after-loop-weight
returns-after-loop-weight g t c = sat-KOf c.args.expr.now c.in-KOf.k c.in-KOf.of (set.contains c.args.members) c.deref-weight-items.result.now c.loop-weight.weight-index _ c.in-KOf.is c.deref-weight-items.ensures.value c.loop-weight-test.false c.loop-weight.invariant
