-- The value at a place of a tape.
use Rattle.std.specs.Prelude.{◌≡◌, ℕ, List, Option, IsSome, option_map}
use Rattle.json.specs.Token.{Token}
use Rattle.json.specs.Lex.{tokens}
use Rattle.json.specs.Json.{document}
use Rattle.serde_json.specs.Data.{Data}
use Rattle.serde_json.specs.Read.{read}
use Rattle.quorum_expr.specs.Placed.{data_at, or_null}
use Rattle.quorum_expr.specs.declared.on_tape.TapeNode.{TapeNode}

abbrev pub data_of : TapeNode → Data
data_of n = or_null (data_at n.element)

-- for the tokens of a JSON text, the root is the value that serde_json reads; there is none if it reads none
abbrev pub IsRootOf : List Token → Option TapeNode → Type 0
IsRootOf ts root = (text : List ℕ) → ts ≡ tokens text → IsSome (document text) → option_map data_of root ≡ read text
