use Rattle.std.proofs.Common.{◌<◌, ◌∙◌, length, map, ap, sym, get_or, slice_index_or, [], arith}
use Rattle.std.proofs.lemmas.List.{length-map}
use Rattle.std.proofs.lemmas.Result.{err_from_is_err_and}
use Rattle.plan.specs.Plan.{configuration_data, group_data}
use Rattle.plan.specs.LentClaims.{all_lent}
use Rattle.plan.specs.PlanClaims.{group_claims}
use Rattle.plan.proofs.Lookups.{item-at}
use Rattle.plan.proofs.Listed.{Reads-below}
use Rattle.plan.proofs.listing.of_groups.Goals as goal
use Rattle.std.proofs.lemmas.Grind.{common_steps}

pub returns-in_err-claims : goal.returns-in_err-claims
returns-in_err-claims c =
    let within : c.loop-group.group < length (map group_data c.args.groups.now) = omega (arith, c.loop-group-test.true, length-map c.args.groups.now group_data) in
    let p = err_from_is_err_and c.from_residual.result c.from_residual.ensures.1 in
    let here = item-at group_data c.args.groups.now c.loop-group.group c.index-groups-from.result [] c.loop-group-test.true (c.index-groups-from.is ∙ ap (λ i. get_or c.args.groups.now i c.index-groups-from.result) c.from.ensures)
    ∙ ap (λ y. map configuration_data y.configurations.items) c.index-groups-from.is ∙ ap (map configuration_data) (sym c.deref.ensures.value) in
    rw (p.1, p.2) (Reads-below (length (map group_data c.args.groups.now)) c.loop-group.group (λ g. group_claims g (slice_index_or (map group_data c.args.groups.now) g [])) (all_lent c.loop-group.list.items) c.in_err-claims.field-0.0 within c.loop-group.invariant
    (λ other. ap (group_claims c.loop-group.group) here ∙ c.in_err-claims.ensures other))

pub loop-group-preserved : goal.loop-group-preserved
loop-group-preserved c = grind (arith, common_steps)
