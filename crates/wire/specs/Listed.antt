-- The messages of a step as a list.
use Rattle.std.specs.Prelude.{List, [], ◌∷◌}
use Rattle.wire.specs.declared.message.Message.{Message}
use Rattle.wire.specs.declared.messages.Messages.{Messages}
use Rattle.wire.specs.declared.messages.Messages.TheVariants.{Empty, One, Many}

-- the messages, in order
abbrev pub listed : Messages → List Message
listed Empty = []
listed (One m) = m ∷ []
listed (Many ms) = ms.items
