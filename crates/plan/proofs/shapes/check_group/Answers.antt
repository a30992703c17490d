use Rattle.std.proofs.Common.{◌<◌, length, map, arith}
use Rattle.std.proofs.lemmas.List.{length-map}
use Rattle.std.proofs.lemmas.Result.{err_from_is_err_and}
use Rattle.plan.specs.Plan.{configuration_data}
use Rattle.plan.specs.PlanClaims.{configuration_claims}
use Rattle.plan.proofs.Admitted.{has-more, has-fault}
use Rattle.plan.proofs.shapes.check_group.Goals as goal
use Rattle.std.proofs.lemmas.Grind.{common_steps}

pub returns-in_err-check_configuration : goal.returns-in_err-check_configuration
returns-in_err-check_configuration c =
    let all = map configuration_data c.args.configurations.now in
    let within : c.loop-configuration.configuration < length all = omega (arith, c.loop-configuration-test.true, length-map c.args.configurations.now configuration_data) in
    let p = err_from_is_err_and c.from_residual.result c.from_residual.ensures.1 in
    rw (p.1, p.2) (has-fault (length all) c.loop-configuration.configuration (configuration_claims c.args.group all)
    c.in_err-check_configuration.field-0.0 within c.loop-configuration.invariant c.in_err-check_configuration.ensures)

pub loop-configuration-preserved : goal.loop-configuration-preserved
loop-configuration-preserved c = grind (arith, common_steps, c.loop-configuration.invariant, c.in_ok-check_configuration.ensures, has-more)
