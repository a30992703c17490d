-- The number on the board, and the steps of all seats.
use Rattle.std.specs.Prelude.{◌≡◌, ℕ, ◌<◌, ◌≤◌, ◌⊎◌, List, [], ◌∷◌, ◌++◌, All}
use mathlib.Core.Option.{some}
use lib.ListN.{get_elem?}
use Rattle.board.specs.declared.BoardStep.{BoardStep}
use Rattle.board.specs.declared.BoardStep.TheVariants.{Raised, Read}
use Rattle.board.specs.Shares.{View, first_of, seats_in, shares}

-- the number that a step raised or read
abbrev pub number_of : BoardStep → ℕ
number_of (Raised n) = n
number_of (Read n) = n

-- a seat raised this number
abbrev pub IsRaised : List (List BoardStep) → ℕ → Type 0
IsRaised views n = (seat : ℕ) × (v : List BoardStep) × (at : ℕ) × (get_elem? views seat ≡ some v)
    × (get_elem? v at ≡ some (Raised n))

-- each number that the seat read is at least all numbers that it raised or read before
abbrev pub NeverFalls : List BoardStep → Type 0
NeverFalls v = (i j n : ℕ) (s : BoardStep) → i < j → get_elem? v i ≡ some s → get_elem? v j ≡ some (Read n)
    → number_of s ≤ n

-- The word is the greatest number that a seat has raised, else 0. Each number that was read is at most the word, and is
-- 0 or was raised
pub record IsBoard (word : ℕ) (views : List (List BoardStep)) : Type 0 where
  pub above : (seat at : ℕ) (v : List BoardStep) (s : BoardStep) → get_elem? views seat ≡ some v → get_elem? v at
      ≡ some s → number_of s ≤ word
  pub reached : (word ≡ 0) ⊎ IsRaised views word
  pub was_raised : (seat at n : ℕ) (v : List BoardStep) → get_elem? views seat ≡ some v → get_elem? v at ≡ some (Read n)
      → (n ≡ 0) ⊎ IsRaised views n
  pub rising : (seat : ℕ) (v : List BoardStep) → get_elem? views seat ≡ some v → NeverFalls v

-- these are the steps of a seat of a board whose number is this one and whose rule holds
abbrev pub IsKept : ℕ → List BoardStep → Type 0
IsKept word steps = (views : List (List BoardStep)) × (seat : ℕ) × (get_elem? views seat ≡ some steps) × IsBoard word
    views

-- the views together have this many seats, and the board has one word, for which the rule holds
abbrev pub Stands : ℕ → List ℕ → List (View BoardStep) → Type 0
Stands seats words views = (shares views ≡ seats) × ((word : ℕ) × (words ≡ word ∷ []) × IsBoard word (seats_in views))

-- a view of one seat has one more step
abbrev pub Adds : View BoardStep → BoardStep → View BoardStep → Type 0
Adds before step after = after ≡ (before.0, (first_of before.1 ++ step ∷ []) ∷ [])

-- the number was read, is at least all that this seat raised or read before, and is the board's number
pub record Looks (before : View BoardStep) (found : ℕ) (after : View BoardStep) : Type 0 where
  pub step : Adds before (Read found) after
  pub at_least : All (λ s. number_of s ≤ found) (first_of before.1)
  pub kept : IsKept found (first_of after.1)

-- the board was raised to this number, and its rule holds
pub record Raises (before : View BoardStep) (lsn : ℕ) (after : View BoardStep) : Type 0 where
  pub step : Adds before (Raised lsn) after
  pub kept : (word : ℕ) × IsKept word (first_of after.1)
