-- Views that stand for seats. A view of a table or of a channel has the number of seats that aren't dealt yet, and the
-- steps of each seat that is there.
use Rattle.std.specs.Prelude.{ℕ, ◌+◌, List, [], ◌∷◌, ◌++◌, length}

-- the number of seats that aren't dealt, and the steps of each seat that is there, oldest first
abbrev pub View : Type 0 → Type 0
View A = ℕ × List (List A)

-- the number of seats of a view
abbrev pub share_of : {A : Type 0} → View A → ℕ
share_of v = v.0 + length v.1

-- the number of seats of some views
abbrev pub shares : {A : Type 0} → List (View A) → ℕ
shares [] = 0
shares (v ∷ vs) = share_of v + shares vs

-- the steps of each seat of some views
abbrev pub seats_in : {A : Type 0} → List (View A) → List (List A)
seats_in [] = []
seats_in (v ∷ vs) = v.1 ++ seats_in vs

-- the steps of the first seat of a list
abbrev pub first_of : {A : Type 0} → List (List A) → List A
first_of [] = []
first_of (steps ∷ rest) = steps
