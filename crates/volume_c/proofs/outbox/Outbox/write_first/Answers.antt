use Rattle.std.proofs.Common.{Bool, true, subst}
use Rattle.wire.specs.Common.{listed, message_of}
use Rattle.message_bytes.specs.Filling.{Fills, Filled}
use Rattle.message_bytes.specs.Spelling.{message_spelled}
use Rattle.volume_c.proofs.Left.{left-first, front-filled}
use Rattle.volume_c.proofs.outbox.Outbox.write_first.Goals as goal

pub returns-then-fits-clause-first : goal.returns-then-fits-clause-first
returns-then-fits-clause-first c =
    let message = c.at-message.result.now in
    let text = message_spelled (message_of message) in
    let old = c.args.out.now in
    let new = c.encode_to_slice.new.out in
    let n = c.encode_to_slice.new.len in
    let done : Filled text old new n = subst (λ (b : Bool). Fills text old new n b) c.if-fits.true c.in-Ok.ensures.text in
    λ _. record {
      message = message;
      first = left-first (listed c.args.self.now.messages) c.args.self.now.next message c.at-message.ensures;
      text = front-filled text old new n done.room c.encode_to_slice.auto.out done.is;
    }
