-- The world of the model.
use Rattle.std.specs.Prelude.{ℕ, List}
use Rattle.volume_model.specs.Message as model
use Rattle.volume_model.specs.Node.{Node}
use Rattle.volume_model.specs.Client.{Client}
use Rattle.volume_model.specs.Common.{Authority, World}

-- the world with this authority, these nodes and clients, and these messages, newest first
abbrev pub world_with : Authority → (ℕ → ℕ → Node) → (ℕ → Client) → List model.Message → World
world_with authority nodes clients messages = record {
  authority = authority;
  nodes = nodes;
  clients = clients;
  messages
      = messages;
}
