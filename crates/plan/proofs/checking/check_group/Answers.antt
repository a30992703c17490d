use Rattle.std.proofs.Common.{◌<◌, length, map, arith}
use Rattle.std.proofs.lemmas.List.{length-map}
use Rattle.std.proofs.lemmas.Result.{err_from_is_err_and}
use Rattle.plan.specs.Plan.{configuration_data}
use Rattle.plan.specs.PlanFaults.{configuration_fault}
use Rattle.plan.proofs.Found.{none-more, Finds-below}
use Rattle.plan.proofs.checking.check_group.Goals as goal

pub returns-in_err-check_configuration : goal.returns-in_err-check_configuration
returns-in_err-check_configuration c =
    let within : c.loop-configuration.configuration < length (map configuration_data c.args.configurations.now) = omega (arith, c.loop-configuration-test.true, length-map c.args.configurations.now configuration_data) in
    let p = err_from_is_err_and c.from_residual.result c.from_residual.ensures.1 in
    rw (p.1, p.2) (Finds-below (length (map configuration_data c.args.configurations.now)) c.loop-configuration.configuration (configuration_fault c.args.group (map configuration_data c.args.configurations.now)) c.in_err-check_configuration.field-0.0 within c.loop-configuration.invariant c.in_err-check_configuration.ensures)

pub loop-configuration-preserved : goal.loop-configuration-preserved
loop-configuration-preserved c = none-more c.loop-configuration.configuration (configuration_fault c.args.group (map configuration_data c.args.configurations.now)) c.loop-configuration.invariant c.in_ok-check_configuration.ensures
