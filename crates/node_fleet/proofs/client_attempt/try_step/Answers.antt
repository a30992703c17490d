use Rattle.std.proofs.Common.{Option}
use Rattle.volume_model.specs.Common.{ClientAnswer}
use Rattle.volume_model.specs.Message as model
use Rattle.writer_core.specs.Writers.{answered}
use Rattle.world.specs.Clients.{client_plan, client_volume, seen_client}
use Rattle.world.specs.Actions.{client_acted, client_after_growth, message_found}
use Rattle.node_fleet.proofs.Judged.{action_own, done_answer, judged_answer, judged_test, still_answer}
use Rattle.node_fleet.proofs.client_attempt.try_step.Goals as goal

pub returns-in-Err-clause-refused : goal.returns-in-Err-clause-refused
returns-in-Err-clause-refused c =
    let old = c.args.client.now in
    let action = c.args.action in
    let found : Option model.Message = message_found c.args.found in
    let defined : ClientAnswer = client_acted found action (client_plan old) (client_volume old) (seen_client old) in
    judged_test c.args.full defined (action_own action found (client_plan old) (client_volume old) (seen_client old)
    c.requires.found) (client_after_growth action) c.in-Err.fault c.in-Err.ensures.answers

pub returns-clause-done : goal.returns-clause-done
returns-clause-done c =
    let old = c.args.client.now in
    let action = c.args.action in
    let found : Option model.Message = message_found c.args.found in
    done_answer (client_after_growth action) answered (client_acted found action (client_plan old) (client_volume old)
    (seen_client old)) (seen_client old) (seen_client c.act.new.self) c.act.result c.act.ensures.answers

pub returns-clause-refused : goal.returns-clause-refused
returns-clause-refused c =
    let old = c.args.client.now in
    let action = c.args.action in
    let found : Option model.Message = message_found c.args.found in
    let defined : ClientAnswer = client_acted found action (client_plan old) (client_volume old) (seen_client old) in
    judged_answer c.args.full defined (action_own action found (client_plan old) (client_volume old) (seen_client old)
    c.requires.found) (client_after_growth action) answered (seen_client old) (seen_client c.act.new.self) c.act.result
    c.act.ensures.answers

pub returns-clause-still : goal.returns-clause-still
returns-clause-still c =
    let old = c.args.client.now in
    let action = c.args.action in
    let found : Option model.Message = message_found c.args.found in
    still_answer (client_after_growth action) answered (client_acted found action (client_plan old) (client_volume old)
    (seen_client old)) (seen_client old) (seen_client c.act.new.self) c.act.result c.act.ensures.answers
