-- Bytes in a place of 64.
use Rattle.std.specs.Prelude.{◌≡◌, ◌≤◌, ℕ, List, length, slice_index}

-- there are 64 bytes, and all are 0 but the first count
pub record IsPadded (bytes : List ℕ) (count : ℕ) : Type 0 where
  pub sized : length bytes ≡ 64
  pub cleared : (at : ℕ) → count ≤ at → slice_index bytes at ≡ 0
