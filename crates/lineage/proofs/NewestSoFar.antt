-- The first of the greatest numbers of a list, one number further
use Rattle.std.proofs.Common.{ℕ, ◌<◌, ◌≤◌, List, get_or}

-- it is the first of the greatest of so many
abbrev pub IsNewest : List ℕ → ℕ → ℕ → Type 0
IsNewest epochs newest place =
    (newest < place) × ((k : ℕ) → k < place → get_or epochs k 0 ≤ get_or epochs newest 0) × ((k : ℕ) → k < newest → get_or epochs k 0 < get_or epochs newest 0)
