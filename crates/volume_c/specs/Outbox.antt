-- The messages that weren't taken.
use Rattle.std.specs.Prelude.{◌≡◌, ℕ, List, ◌∷◌, drop}
use Rattle.wire.specs.declared.message.Message.{Message}
use Rattle.wire.specs.Common.{listed, message_of}
use Rattle.message_bytes.specs.Spelling.{message_spelled}
use Rattle.volume_c.specs.declared.outbox.Outbox.{Outbox}

-- the messages that weren't taken, in order
abbrev pub left_in : Outbox → List Message
left_in outbox = drop outbox.next (listed outbox.messages)

-- the bytes are those of the first message
pub record WritesFirst (left : List Message) (bytes : List ℕ) : Type 0 where
  pub message : Message
  pub first : left ≡ message ∷ drop 1 left
  pub text : bytes ≡ message_spelled (message_of message)
