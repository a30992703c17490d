-- Decoding numbers and bytes from left to right.
use Rattle.std.specs.Prelude.{ℕ, nat_lt, List, [], ◌∷◌, length, take, drop, Result, Ok, Err}
use Rattle.std.specs.Int.{Width, byte_len, from_be_bytes}
use Rattle.volume_model.specs.Common.{refuse_if}
use Rattle.volume_model.specs.declared.fault.Fault.{Fault}
use Rattle.volume_model.specs.declared.fault.Fault.TheVariants.{Short}

-- a byte, and the bytes after it
abbrev pub byte_at : List ℕ → Result (ℕ × List ℕ) Fault
byte_at [] = Err Short
byte_at (first ∷ rest) = Ok (first, rest)

-- a big-endian number, and the bytes after it
abbrev pub number_at : Width → List ℕ → Result (ℕ × List ℕ) Fault
number_at w bytes = refuse_if (nat_lt (length bytes) (byte_len w)) Short
    (Ok (from_be_bytes w (take (byte_len w) bytes), drop (byte_len w) bytes))

-- the bytes of a page, and the bytes after them
abbrev pub image_at : List ℕ → Result (List ℕ × List ℕ) Fault
image_at bytes = refuse_if (nat_lt (length bytes) 512) Short (Ok (take 512 bytes, drop 512 bytes))
