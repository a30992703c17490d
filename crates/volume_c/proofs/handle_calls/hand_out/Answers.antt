use Rattle.std.proofs.Common.{List, ◌∷◌, refl, sym, ap, ◌∙◌}
use Rattle.wire.specs.declared.message.Message.{Message}
use Rattle.wire.specs.Common.{message_of, messages_of}
use Rattle.volume_c.proofs.handle_calls.hand_out.Goals as goal

pub returns : goal.returns
returns c =
    let did = c.hand_out.ensures in
    record {
      ok = λ fits.
          let first = did.first fits in
          (message_of first.message, ap messages_of first.first ∙ ap (λ (ms : List Message). message_of first.message ∷ messages_of ms) (sym (did.passed fits)), first.text);
      unchanged = λ other. (ap messages_of (did.left other), did.unchanged other);
      actor = refl;
    }
