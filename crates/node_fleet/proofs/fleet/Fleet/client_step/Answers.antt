use Rattle.std.proofs.Common.{◌≡◌, IfErr, subst}
use Rattle.volume_model.specs.Common.{Event}
use Rattle.volume_model.specs.declared.fault.Fault.TheVariants.{NoMessage}
use Rattle.node_fleet.specs.Calls.{NamesElse}
use Rattle.node_fleet.specs.Passes.{steps_of}
use Rattle.node_fleet.proofs.fleet.Fleet.client_step.Goals as goal

pub returns-clause-unmade : goal.returns-clause-unmade
returns-clause-unmade g c =
    let steps = steps_of c.args.pass.now in
    subst (λ (e : Event). IfErr c.enter_client.result (λ fault. fault ≡ NoMessage → NamesElse e steps))
    c.in_ok-event.ensures c.enter_client.ensures.unmade
