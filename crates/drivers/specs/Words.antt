-- The words of a script's line.
use Rattle.std.specs.Prelude.{ℕ, ◌+◌, ◌-◌, ◌*◌, ◌==◌, ◌&&◌, ◌||◌, not, nat_le, Bool, if◌then◌else◌, List, [], ◌∷◌, length, slice_index, Option, Some, None, option_and_then, option_map}
use Rattle.std.specs.Char.{is_ascii_digit}
use Rattle.std.specs.List.{list_all, slice_split}
use Rattle.std.specs.Str.Parse.{digits_value}

-- the parts between single spaces
abbrev pub words_in : List ℕ → List (List ℕ)
words_in line = slice_split (λ b. b == 32) line

-- the parts between colons, and between dots
abbrev pub fields_in : List ℕ → List (List ℕ)
fields_in word = slice_split (λ b. b == 58) word

abbrev pub sides_in : List ℕ → List (List ℕ)
sides_in word = slice_split (λ b. b == 46) word

-- one or more decimal digits, without a leading zero
abbrev pub is_numeral : List ℕ → Bool
is_numeral word = nat_le 1 (length word) && (nat_le (length word) 1 || not (slice_index word 0 == 48)) && list_all is_ascii_digit word

-- the value of a decimal numeral, if it is at most this
abbrev pub number_in : ℕ → List ℕ → Option ℕ
number_in most word = if is_numeral word && nat_le (digits_value 10 word) most then Some (digits_value 10 word) else
    None

-- the value of a hexadecimal digit in lower case
abbrev pub digit_in : ℕ → Option ℕ
digit_in byte =
    if nat_le 48 byte && nat_le byte 57 then Some (byte - 48)
    else if nat_le 97 byte && nat_le byte 102 then Some (byte - 87)
    else None

-- the byte of two hexadecimal digits
abbrev pub byte_in : ℕ → ℕ → Option ℕ
byte_in high low = option_and_then (λ h. option_map (λ l. h * 16 + l) (digit_in low)) (digit_in high)

-- the bytes of pairs of digits
abbrev pub all_bytes_in : List ℕ → Option (List ℕ)
all_bytes_in [] = Some []
all_bytes_in (high ∷ []) = None
all_bytes_in (high ∷ low ∷ more) = option_and_then (λ byte. option_map (λ bytes. byte ∷ bytes) (all_bytes_in more))
    (byte_in high low)

-- 1 to 64 bytes, by their digits
abbrev pub bytes_in : List ℕ → Option (List ℕ)
bytes_in word = if nat_le 1 (length word) && nat_le (length word) 128 then all_bytes_in word else None
