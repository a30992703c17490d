use Rattle.std.proofs.Common.{map}
use Rattle.volume_model.specs.Common.{issued}
use Rattle.volume_c.specs.View.{seen}
use Rattle.volume_c.specs.Calls.{client_does}
use Rattle.volume_c.specs.Changes.{given_change}
use Rattle.volume_c.proofs.Made.{not-changed}
use Rattle.volume_c.proofs.client_calls.volume_writer_issue.Goals as goal

pub returns-in-Err : goal.returns-in-Err
returns-in-Err c =
    not-changed (client_does (λ plan volume client. issued plan volume client (map given_change c.args.given.now)) (seen c.args.writer.now.seal.held)) c.in-Err.status c.args.writer.now.seal.held c.in-Err.ensures.err
