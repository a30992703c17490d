use Rattle.std.proofs.Common.{Some, [], ap, ◌∙◌}
use Rattle.std.specs.Arc.{arc_value}
use Rattle.volume_model.specs.Common.{Plan}
use Rattle.volume_model.specs.Client as client
use Rattle.plan.specs.Common.{checked_model}
use Rattle.volume_c.specs.View.{seen}
use Rattle.volume_c.specs.Clients.{first_step}
use Rattle.volume_c.proofs.Made.{client-held, first-made, made, unmade}
use Rattle.volume_c.proofs.client_calls.volume_writer_first.Goals as goal

pub returns-in-Err-clause-makes : goal.returns-in-Err-clause-makes
returns-in-Err-clause-makes c = unmade (first_step (seen c.args.plan.now.seal.held)) c.in-Err.status c.args.out.now.seal.held c.in-Err.ensures.err

pub returns-in-Ok-first-clause-makes : goal.returns-in-Ok-first-clause-makes
returns-in-Ok-first-clause-makes c =
    let plan : Plan = checked_model (arc_value c.in-Ok.plan) in
    made (first_step (seen c.args.plan.now.seal.held)) c.hold.result c.args.out.now.seal.held c.hold.new.out.seal.held c.of.result c.is_live.result c.is_live.ensures c.if-is_live.false c.hold.ensures.ok c.hold.ensures.err
    (ap first_step c.in-Ok.ensures.plan ∙ first-made plan 1 (client.first_writer plan) c.in-Ok-first.client c.in-Ok-first.ensures.client
    ∙ ap (λ r. Some r) (client-held c.of.result c.in-Ok-first.client [] plan 1 c.of.ensures.actor c.of.ensures.nothing c.in-Ok-first.ensures.own))
