use Rattle.std.proofs.Common.{◌≡◌, ℕ, List, Result, Ok, Err, IfOk, arith}
use Rattle.volume_model.specs.Common.{Gives}
use Rattle.volume_model.specs.declared.fault.Fault.{Fault}
use Rattle.wire.specs.declared.message.Message.{Message}
use Rattle.wire.specs.Common.{message_of}
use Rattle.message_bytes.specs.Reading.{message_in}
use Rattle.message_bytes.specs.Spelling.{message_spelled}
use Rattle.message_bytes.proofs.Fields.{IsBytes}
use Rattle.message_bytes.proofs.Messages.{message_found}
use Rattle.message_bytes.proofs.decoding.decode.Goals as goal

is_found : (bytes : List ℕ) (r : Result Message Fault) → IsBytes bytes → Gives message_of r (message_in bytes) → IfOk r (λ m. bytes ≡ message_spelled (message_of m))
is_found bytes (Ok m) fits given = message_found bytes (message_of m) fits given
is_found bytes (Err fault) fits given = tt

pub returns-clause-canonical : goal.returns-clause-canonical
returns-clause-canonical c = is_found c.args.bytes.now c.whole.result (λ i. omega (arith, c.type_inv.bytes i)) c.whole.ensures
