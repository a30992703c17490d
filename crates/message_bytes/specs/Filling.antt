-- Text in a buffer of the caller's.
use Rattle.std.specs.Prelude.{◌≡◌, ◌<◌, ◌≤◌, ◌++◌, ℕ, Bool, true, false, List, drop, length}

-- If the n bytes of the text fit, the text is at the front of the buffer, and what is behind it is as it was.
pub record Filled (text old new : List ℕ) (n : ℕ) : Type 0 where
  pub room : n ≤ length old
  pub is : new ≡ text ++ drop n old

-- If they don't fit, the buffer is unchanged.
pub record Unfilled (old new : List ℕ) (n : ℕ) : Type 0 where
  pub room : length old < n
  pub same : new ≡ old

-- one or the other, as the test says whether they fit
abbrev pub Fills : List ℕ → List ℕ → List ℕ → ℕ → Bool → Type 0
Fills text old new n true = Filled text old new n
Fills text old new n false = Unfilled old new n
