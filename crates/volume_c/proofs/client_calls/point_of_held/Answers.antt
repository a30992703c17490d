use Rattle.std.proofs.Common.{ℕ, Bool, length, Some, Ok, nat_le, ap, ◌∙◌}
use Rattle.volume_model.specs.declared.fault.Fault.TheVariants.{NoGroup}
use Rattle.volume_model.specs.Common.{refuse_if, group_point_of}
use Rattle.volume_model.specs.Client as client
use Rattle.writer_core.specs.Writers.{client_of}
use Rattle.volume_c.specs.View.{view_of}
use Rattle.volume_c.specs.Clients.{if_open, point_value}
use Rattle.volume_c.proofs.Made.{client-read, gave, gave-none, not-le}
use Rattle.volume_c.proofs.client_calls.point_of_held.Goals as goal

pub returns-in-Ok-group_point-clause-reads : goal.returns-in-Ok-group_point-clause-reads
returns-in-Ok-group_point-clause-reads c =
    let w : client.Client = client_of c.in-Ok.writer.now in
    let group = c.args.group in
    gave (point_value group (view_of c.args.held.now.actor)) c.in-Ok-group_point.found (Some c.args.held.now)
    (client-read (λ (now : client.Client). if_open now (refuse_if (nat_le (length now.groups) group) NoGroup (Ok (group_point_of now.groups group)))) (view_of c.args.held.now.actor) w c.in-Ok.ensures.writer
    ∙ ap (λ (b : Bool). Some (refuse_if b NoGroup (Ok (group_point_of w.groups group)))) (not-le group (length w.groups) c.in-Ok-group_point.ensures.0)
    ∙ ap (λ (n : ℕ). Some (Ok n)) c.in-Ok-group_point.ensures.1)

pub returns-in-Err-clause-reads : goal.returns-in-Err-clause-reads
returns-in-Err-clause-reads c =
    gave-none (λ (now : client.Client). refuse_if (nat_le (length now.groups) c.args.group) NoGroup (Ok (group_point_of now.groups c.args.group))) (view_of c.args.held.now.actor) c.args.point.now c.in-Err.status (Some c.args.held.now) c.in-Err.ensures.status
