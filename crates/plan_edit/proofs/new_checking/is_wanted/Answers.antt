use Rattle.std.proofs.Common.{◌≡◌, ℕ, true, map, sym, subst, below_more, arith, rules}
use Rattle.std.proofs.lemmas.Grind.{common_steps}
use Rattle.std.proofs.lemmas.List.{get_or-map}
use Rattle.plan.specs.Common.{configuration_data, plan_data, group_at}
use Rattle.plan_edit.specs.NewPlans.{HasRoot}
use Rattle.plan_edit.proofs.new_checking.is_wanted.Goals as goal

pub loop-g-preserved : goal.loop-g-preserved
loop-g-preserved c =
    let words = c.args.words.now in
    let plan = plan_data c.args.new.now in
    let yes : c.in_ok-has_root.field-0 ≡ true = c.if-not-branch.false in
    let same : group_at plan c.loop-g.g ≡ map configuration_data c.deref.result.now = first_of (search rules, grind (arith, common_steps), grind (arith, get_or-map)) in
    let here : HasRoot words (group_at plan c.loop-g.g) = subst (HasRoot words) (sym same) (c.in_ok-has_root.ensures yes) in
    below_more (λ (g : ℕ). HasRoot words (group_at plan g)) c.loop-g.g c.loop-g.invariant here
