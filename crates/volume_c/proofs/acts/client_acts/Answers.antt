use Rattle.writer_core.specs.Writers.{answered}
use Rattle.world.specs.declared.client.Client.{Client}
use Rattle.world.specs.Actions.{client_acted, client_after_growth, message_found}
use Rattle.world.specs.Clients.{client_plan, client_volume, seen_client}
use Rattle.volume_c.proofs.Did.{client-failed, failed}
use Rattle.volume_c.proofs.acts.client_acts.Goals as goal

pub returns-in-Err : goal.returns-in-Err
returns-in-Err c =
    let s : Client = c.in-Client.client in
    let does = client_acted (message_found c.args.found) c.args.action in
    client-failed does c.args.held.now.actor s c.act.new.self c.args.held.now.outbox c.in-Client.is c.in-Err.ensures.same c.in-Err.fault c.number.result c.number.ensures
    (failed (client_after_growth c.args.action) answered c.in-Err.fault (does (client_plan s) (client_volume s) (seen_client s)) (seen_client s) (seen_client c.act.new.self) c.in-Err.ensures.answers)
