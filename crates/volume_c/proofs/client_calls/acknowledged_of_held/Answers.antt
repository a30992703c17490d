use Rattle.std.proofs.Common.{Bool, Some, Ok, sym, ap, ◌∙◌}
use Rattle.volume_model.specs.Client as client
use Rattle.volume_model.specs.Common.{acknowledged}
use Rattle.writer_core.specs.Writers.{client_of}
use Rattle.volume_c.specs.View.{view_of}
use Rattle.volume_c.specs.Clients.{acknowledged_value, if_open}
use Rattle.volume_c.proofs.Made.{client-read, gave, gave-none}
use Rattle.volume_c.proofs.client_calls.acknowledged_of_held.Goals as goal

pub returns-in-Ok-clause-reads : goal.returns-in-Ok-clause-reads
returns-in-Ok-clause-reads c =
    let w : client.Client = client_of c.in-Ok.writer.now in
    let lsn = c.args.lsn in
    gave (acknowledged_value lsn (view_of c.args.held.now.actor)) c.acknowledged.result (Some c.args.held.now)
    (client-read (λ (now : client.Client). if_open now (Ok (acknowledged now lsn))) (view_of c.args.held.now.actor) w c.in-Ok.ensures.writer
    ∙ ap (λ (b : Bool). Some (Ok b)) (sym c.acknowledged.ensures))

pub returns-in-Err-clause-reads : goal.returns-in-Err-clause-reads
returns-in-Err-clause-reads c =
    gave-none (λ (now : client.Client). Ok (acknowledged now c.args.lsn)) (view_of c.args.held.now.actor) c.args.acknowledged.now c.in-Err.status (Some c.args.held.now) c.in-Err.ensures.status
