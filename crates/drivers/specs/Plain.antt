-- A change at the beginning of a text.
use Rattle.std.specs.Prelude.{◌≡◌, ℕ, ◌≤◌, List, ◌∷◌, ◌++◌, Some}
use Rattle.drivers.specs.Named.{IsNumberAt}
use Rattle.drivers.specs.Words.{bytes_in}

-- the text begins with the numbers of a group, a block and an offset, with a colon after each, and continues with rest
pub record IsPlaceAt (text : List ℕ) (group block offset : ℕ) (rest : List ℕ) : Type 0 where
  pub second : List ℕ
  pub third : List ℕ
  pub group_at : IsNumberAt text group (58 ∷ second)
  pub block_at : IsNumberAt second block (58 ∷ third)
  pub offset_at : IsNumberAt third offset (58 ∷ rest)
  pub group_fits : group ≤ 255
  pub offset_fits : offset ≤ 65535

-- the text begins with the hexadecimal digits of these bytes, and continues with rest
pub record AreBytesAt (text bytes rest : List ℕ) : Type 0 where
  pub word : List ℕ
  pub is : text ≡ word ++ rest
  pub spelled : bytes_in word ≡ Some bytes
