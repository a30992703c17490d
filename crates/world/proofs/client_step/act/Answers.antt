use Rattle.std.proofs.Common.{◌≡◌, ℕ, ◌+◌, ◌++◌, Bool, List, [], Option, Err, refl, sym, ap, ◌∙◌, arith}
use Rattle.std.proofs.lemmas.Result.{err_from_is_err_and}
use Rattle.volume_model.specs.Common.{added, Plan, ClientStep}
use Rattle.volume_model.specs.Message as model
use Rattle.volume_model.specs.Client.{Client}
use Rattle.wire.specs.declared.message.Message.{Message}
use Rattle.wire.specs.Common.{listed, messages_of}
use Rattle.writer_core.specs.Writers.{answered}
use Rattle.world.specs.Actions.{client_acted, client_does, message_found, named_in}
use Rattle.world.specs.Clients.{client_plan, client_volume, seen_client}
use Rattle.world.proofs.Moving.{judged_moves, made_result}
use Rattle.world.proofs.client_step.act.Goals as goal
use Rattle.std.proofs.lemmas.Grind.{common_steps}

pub enter-requires : goal.enter-requires
enter-requires c = grind (arith, common_steps)

pub returns-clause-moves : goal.returns-clause-moves
returns-clause-moves c =
    let plan : Plan = client_plan c.args.client.now in
    let volume : ℕ = client_volume c.args.client.now in
    let made : List Message = listed c.in_ok-made.made in
    let kept : List Message = c.args.messages.now.items in
    let old : Client = seen_client c.args.client.now in
    let new : Client = seen_client c.act.new.self in
    let found : message_found c.named-found.result ≡ named_in (added (messages_of kept) []) c.args.action = c.named-found.ensures ∙ ap (λ (ms : List Message). named_in (added (messages_of ms) []) c.args.action) (c.as_slice.ensures.value ∙ c.reserve-room.ensures.items) in
    made_result (λ (step : ClientStep). step.made) (λ (step : ClientStep). step.client) kept c.enter.new.messages.items made (client_does (added (messages_of kept) []) c.args.action plan volume old) (answered c.in_ok-made.made new) new c.enter.result
    (ap (λ (o : Option model.Message). client_acted o c.args.action plan volume old) (sym found) ∙ c.in_ok-made.ensures.answers) refl refl c.enter.ensures.count
    (c.enter.ensures.added ∙ ap (λ (ms : List Message). ms ++ made) c.reserve-room.ensures.items)

pub returns-in_err-admits-clause-moves : goal.returns-in_err-admits-clause-moves
returns-in_err-admits-clause-moves c = grind (arith, common_steps, c.named-found.ensures, c.as_slice.ensures.value, c.reserve-room.ensures.items, c.in_err-admits.ensures.answers, c.from_residual.ensures.1, Bool, Err, err_from_is_err_and, judged_moves)
