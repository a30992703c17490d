-- The remaining parts of a text.
use Rattle.std.specs.Borrow.{Bor}
use Rattle.std.specs.Prelude.{ℕ, ◌==◌, List, [], ◌∷◌, Option, Some, None, option_map}
use Rattle.std.specs.List.{slice_split}
use Rattle.std.specs.Option.{option_map_or}
use Rattle.drivers.specs.Grammar.{name_in}
use Rattle.drivers.specs.Words.{number_in, sides_in}
use Rattle.drivers.specs.declared.parts.Parts.{Parts}

-- the parts of a text between separators; none if there is no text
abbrev pub left_of : ℕ → Option (Bor (List ℕ)) → List (List ℕ)
left_of separator left = option_map_or (λ text. slice_split (λ b. b == separator) text.now) left []

-- the parts that haven't been taken
abbrev pub parts_left : Parts → List (List ℕ)
parts_left parts = left_of parts.separator parts.left

-- the number that the first part is, if it is at most this, and the parts after it
abbrev pub first_number : ℕ → List (List ℕ) → Option (ℕ × List (List ℕ))
first_number most [] = None
first_number most (part ∷ parts) = option_map (λ n. (n, parts)) (number_in most part)

-- no part is left
abbrev pub ended : List (List ℕ) → Option (Unit {0})
ended [] = Some tt
ended (part ∷ parts) = None

-- the message that the only part names, as `L.K`
abbrev pub only_name : ℕ → List (List ℕ) → Option (ℕ × ℕ)
only_name earlier (name ∷ []) = name_in earlier (sides_in name)
only_name earlier parts = None
