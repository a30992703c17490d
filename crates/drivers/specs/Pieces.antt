-- The lines of a script's text.
use Rattle.std.specs.Prelude.{ℕ, ◌==◌, if◌then◌else◌, List, [], ◌∷◌}
use Rattle.std.specs.List.{onto_first}

-- the lines of a text, each with the newline at its end; the last line may have none
abbrev pub pieces : List ℕ → List (List ℕ)
pieces [] = []
pieces (b ∷ text) = if b == 10 then (b ∷ []) ∷ pieces text else onto_first b (pieces text)

-- the bytes before the first newline
abbrev pub before_newline : List ℕ → List ℕ
before_newline [] = []
before_newline (b ∷ piece) = if b == 10 then [] else b ∷ before_newline piece
