use Rattle.std.proofs.Common.{◌<◌, length, map, arith, Ok}
use Rattle.std.proofs.lemmas.List.{length-map, map-append}
use Rattle.std.proofs.lemmas.Result.{err_from_is_err_and}
use Rattle.plan.specs.Plan.{configuration_data}
use Rattle.plan.specs.LentClaims.{all_lent}
use Rattle.plan.specs.PlanClaims.{configuration_claims}
use Rattle.plan.proofs.Listed.{claims-more, Reads-below}
use Rattle.plan.proofs.listing.of_group.Goals as goal
use Rattle.std.proofs.lemmas.Grind.{common_steps}

pub returns-in_err-claims : goal.returns-in_err-claims
returns-in_err-claims c =
    let within : c.loop-configuration.configuration < length (map configuration_data c.args.configurations.now) = omega (arith, c.loop-configuration-test.true, length-map c.args.configurations.now configuration_data) in
    let p = err_from_is_err_and c.from_residual.result c.from_residual.ensures.1 in
    rw (p.1, p.2) (Reads-below (length (map configuration_data c.args.configurations.now)) c.loop-configuration.configuration (configuration_claims c.args.group (map configuration_data c.args.configurations.now)) (all_lent c.loop-configuration.list.items) c.in_err-claims.field-0.0 within c.loop-configuration.invariant c.in_err-claims.ensures)

pub loop-configuration-preserved : goal.loop-configuration-preserved
loop-configuration-preserved c = grind (arith, common_steps, c.loop-configuration.invariant, c.in_ok-claims.ensures, c.in_ok-append.ensures.items, claims-more, Ok, map-append)
