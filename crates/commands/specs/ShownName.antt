-- A file's name as an explanation prints it.
use Rattle.std.specs.Prelude.{ℕ, ◌+◌, ◌-◌, ◌/◌, ◌%◌, nat_lt, if◌then◌else◌, List, ◌++◌, chars, codes, encode_utf8, flat_map}
use Rattle.std.specs.Char.{is_control}

-- the digit of a number's last four bits
abbrev pub hex_digit : ℕ → ℕ
hex_digit number = if nat_lt (number % 16) 10 then 48 + number % 16 else 97 + (number % 16 - 10)

-- a character, or the escape of a control character
abbrev pub shown_char : ℕ → List ℕ
shown_char c = if is_control c then codes "\\x" ++ encode_utf8 (hex_digit (c / 16)) ++ encode_utf8 (hex_digit c)
    else encode_utf8 c

-- a name with escapes in place of control characters
abbrev pub shown_name : List ℕ → List ℕ
shown_name name = flat_map shown_char (chars name)
