-- What was appended to a writer's tokens: a token, a value, or an object or a list that isn't closed yet.
use Rattle.std.specs.Prelude.{◌≡◌, ℕ, ◌≤◌, List, [], ◌∷◌, ◌++◌, Some}
use Rattle.json.specs.Token.{Token, begin_object, begin_array}
use Rattle.json.specs.Json as json
use Rattle.json.specs.Tree as tree
use Rattle.json.specs.Tree.{json_tokens}
use Rattle.json.specs.Written.{Written}
use Rattle.serde_json.specs.Data.{Data, depth, Members, no_members, members_depth}
use Rattle.serde_json.specs.Read.{of_json, of_members}
use Rattle.serde_json.specs.Written.{WritesValue, outline, blank, members_outline, blank_members}

-- One token was written.
pub record PutsToken (t : Token) (old new : Written) : Type 0 where
  pub tokens : new.tokens ≡ old.tokens ++ t ∷ []
  pub before : new.before ≡ old.before

-- A value was written.
pub record Puts (d : Data) (old new : Written) : Type 0 where
  pub value : WritesValue d old.tokens new.tokens
  pub before : new.before ≡ old.before

-- the tokens of members, without the end of their object
abbrev pub open_tokens : json.Members → List Token
open_tokens json.no_members = []
open_tokens (json.member k j ms) = Token.key k ∷ (json_tokens j ++ open_tokens ms)

-- A key was written, and its value.
pub record PutsMember (k : List ℕ) (d : Data) (old new : Written) : Type 0 where
  pub between : Written
  pub key : PutsToken (Token.key k) old between
  pub value : Puts d between new

-- An object was begun and has these keys and values so far.
pub record Opens (found : Members) (old new : Written) : Type 0 where
  pub members : json.Members
  pub tokens : new.tokens ≡ old.tokens ++ begin_object ∷ open_tokens members
  pub is : of_members members no_members ≡ Some found
  pub same : blank_members members ≡ members_outline found
  pub nests : tree.members_depth members ≤ members_depth found
  pub before : new.before ≡ old.before

-- the tokens of values
abbrev pub all_tokens : List json.Json → List Token
all_tokens [] = []
all_tokens (j ∷ js) = json_tokens j ++ all_tokens js

-- The JSON is that of a value.
pub record IsOf (j : json.Json) (d : Data) : Type 0 where
  pub is : of_json j ≡ Some d
  pub same : blank j ≡ outline d
  pub nests : tree.depth j ≤ depth d

-- there are as many JSON values, each with its data
abbrev pub AreOf : List json.Json → List Data → Type 0
AreOf [] [] = Unit {0}
AreOf [] (d ∷ ds) = ⊥
AreOf (j ∷ js) [] = ⊥
AreOf (j ∷ js) (d ∷ ds) = IsOf j d × AreOf js ds

-- A list was begun, and has these values so far.
pub record Lists (ds : List Data) (old new : Written) : Type 0 where
  pub items : List json.Json
  pub tokens : new.tokens ≡ old.tokens ++ begin_array ∷ all_tokens items
  pub are : AreOf items ds
  pub before : new.before ≡ old.before
