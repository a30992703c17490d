use Rattle.std.proofs.Common.{◌<◌, length, map, ap, sym, subst, ◌∙◌, get_or, slice_index_or, [], arith, Err}
use Rattle.std.proofs.lemmas.List.{length-map}
use Rattle.std.proofs.lemmas.Result.{err_from_is_err_and}
use Rattle.plan.specs.Plan.{configuration_data, group_data}
use Rattle.plan.specs.PlanFaults.{group_fault, Finds}
use Rattle.plan.proofs.Lookups.{item-at}
use Rattle.plan.proofs.Found.{Finds-below}
use Rattle.plan.proofs.checking.check_groups.Goals as goal
use Rattle.std.proofs.lemmas.Grind.{common_steps}

pub returns-in_err-check_group : goal.returns-in_err-check_group
returns-in_err-check_group c =
    let within : c.loop-group.group < length (map group_data c.args.groups.now) = omega (arith, c.loop-group-test.true, length-map c.args.groups.now group_data) in
    let p = err_from_is_err_and c.from_residual.result c.from_residual.ensures.1 in
    let here = item-at group_data c.args.groups.now c.loop-group.group c.index-groups-from.result [] c.loop-group-test.true (c.index-groups-from.is ∙ ap (λ i. get_or c.args.groups.now i c.index-groups-from.result) c.from.ensures)
    ∙ ap (λ y. map configuration_data y.configurations.items) c.index-groups-from.is ∙ ap (map configuration_data) (sym c.deref.ensures.value) in
    rw (p.1, p.2) (Finds-below (length (map group_data c.args.groups.now)) c.loop-group.group (λ g. group_fault g (slice_index_or (map group_data c.args.groups.now) g [])) c.in_err-check_group.field-0.0 within c.loop-group.invariant
    (subst (λ cs. Finds (Err c.in_err-check_group.field-0.0) (group_fault c.loop-group.group cs)) (sym here) c.in_err-check_group.ensures))

pub loop-group-preserved : goal.loop-group-preserved
loop-group-preserved c = grind (arith, common_steps)
