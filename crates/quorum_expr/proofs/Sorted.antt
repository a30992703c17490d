-- The members of an object on a tape stand in order of their keys, each key once.
use Rattle.std.proofs.Common.{◌≡◌, List, true, Some, is_some, sym, subst}
use Rattle.std.specs.Prelude.{⊤}
use Rattle.json.specs.Token.{Token}
use Rattle.json.specs.Json as json
use Rattle.json.specs.Json.{Json}
use Rattle.serde_json.specs.Data.{Data, object, Members, no_members, put}
use Rattle.serde_json.specs.Read.{of_json, of_members}
use Rattle.quorum_expr.specs.Placed.{data_at, or_null}
use Rattle.quorum_expr.proofs.Keys.{IsAscending, ascending_put}
use Rattle.quorum_expr.proofs.Converted.{then, by_kind}
use Rattle.quorum_expr.proofs.Places.{placed, data-placed}

-- an object's members are in order
abbrev pub IsInOrder : Data → Type 0
IsInOrder (object ms) = IsAscending ms
IsInOrder d = ⊤

all_up : (ms : json.Members) (found all : Members) → of_members ms found ≡ Some all → IsAscending found → IsAscending all
all_up json.no_members found all h up = let same : found ≡ all = cc in subst IsAscending same up
all_up (json.member k j ms) found all h up =
    let x = then (λ d. of_members ms (put k d found)) (of_json j) all h in
    all_up ms (put k x.0 found) all x.2 (ascending_put k x.0 found up)

in_order : (j : Json) (d : Data) → of_json j ≡ Some d → IsInOrder d
in_order = by_kind (λ j d. IsInOrder d) tt (λ b. tt) (λ s n e. tt) (λ s. tt) (λ js ds e. tt) (λ ms es e. all_up ms no_members es e tt)

pub here_in_order : (ts : List Token) → is_some (data_at ts) ≡ true → IsInOrder (or_null (data_at ts))
here_in_order ts h = let x = placed ts h in subst (λ o. IsInOrder (or_null o)) (sym (data-placed ts x)) (in_order x.found x.d x.is)
