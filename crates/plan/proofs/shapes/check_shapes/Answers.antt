use Rattle.std.proofs.Common.{◌≡◌, ◌<◌, ◌∙◌, length, map, ap, slice_index_or, [], arith}
use Rattle.std.proofs.lemmas.List.{length-map}
use Rattle.std.proofs.lemmas.Result.{err_from_is_err_and}
use Rattle.plan.specs.Plan.{configuration_data, group_data}
use Rattle.plan.specs.PlanClaims.{group_claims}
use Rattle.plan.proofs.Admitted.{has-fault}
use Rattle.plan.proofs.shapes.check_shapes.Goals as goal
use Rattle.std.proofs.lemmas.Grind.{common_steps}

pub returns-in_err-check_group : goal.returns-in_err-check_group
returns-in_err-check_group c =
    let all = map group_data c.args.groups.now in
    let within : c.loop-group.group < length all = omega (arith, c.loop-group-test.true, length-map c.args.groups.now group_data) in
    let p = err_from_is_err_and c.from_residual.result c.from_residual.ensures.1 in
    let here : slice_index_or all c.loop-group.group [] ≡ map configuration_data c.deref.result.now = grind (arith, common_steps) in
    rw (p.1, p.2) (has-fault (length all) c.loop-group.group (λ g. group_claims g (slice_index_or all g []))
    c.in_err-check_group.field-0.0 within c.loop-group.invariant
    (ap (group_claims c.loop-group.group) here ∙ c.in_err-check_group.ensures.0, c.in_err-check_group.ensures.1))

pub loop-group-preserved : goal.loop-group-preserved
loop-group-preserved c = grind (arith, common_steps)
