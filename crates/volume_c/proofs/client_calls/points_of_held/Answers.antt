use Rattle.std.proofs.Common.{ℕ, Some, Ok, ◌≡◌, sym, ap, ◌∙◌}
use Rattle.volume_model.specs.Client as client
use Rattle.volume_model.specs.Common.{complete_point, durable_point, last_start, last_lsn}
use Rattle.writer_core.specs.Writers.{client_of}
use Rattle.volume_c.specs.View.{view_of}
use Rattle.volume_c.specs.Calls.{Value}
use Rattle.volume_c.specs.Clients.{Points, if_open, points_of, points_value}
use Rattle.volume_c.proofs.Made.{client-read, gave, gave-none}
use Rattle.volume_c.proofs.client_calls.points_of_held.Goals as goal

abbrev given : ℕ → ℕ → ℕ → ℕ → Value Points
given complete durable start last = Some (Ok (complete, durable, start, last))

pub returns-in-Ok-clause-reads : goal.returns-in-Ok-clause-reads
returns-in-Ok-clause-reads c =
    let w : client.Client = client_of c.in-Ok.writer.now in
    let last : c.last_lsn.result ≡ last_lsn w.log = c.last_lsn.ensures ∙ ap last_lsn c.log.ensures in
    gave (points_value (view_of c.args.held.now.actor)) (c.complete_point.result, c.durable_point.result, c.start.result, c.last_lsn.result) (Some c.args.held.now)
    (client-read (λ (now : client.Client). if_open now (Ok (complete_point now, durable_point now, last_start now.lineage, last_lsn now.log))) (view_of c.args.held.now.actor) w c.in-Ok.ensures.writer
    ∙ (λ i. given (sym c.complete_point.ensures i) (sym c.durable_point.ensures i) (sym c.start.ensures i) (sym last i)))

pub returns-in-Err-clause-reads : goal.returns-in-Err-clause-reads
returns-in-Err-clause-reads c =
    gave-none (λ (now : client.Client). Ok (complete_point now, durable_point now, last_start now.lineage, last_lsn now.log)) (view_of c.args.held.now.actor) (points_of c.args.points.now) c.in-Err.status (Some c.args.held.now) c.in-Err.ensures.status
