-- Numbers of one or two digits.
use Rattle.std.proofs.Common.{◌≡◌, ℕ, ◌+◌, ◌-◌, ◌<◌, List, [], ◌∷◌, length, get_or, arith, ◌*◌, ◌≤◌, decimal}
use Rattle.std.specs.Char.{digit_value}
use Rattle.std.proofs.lemmas.Fmt.{decimal_digit, decimal_step}
use Rattle.std.proofs.lemmas.Str.{digit_value_digit}
use Rattle.std.proofs.lemmas.Str.Parse.{digit_from_value}
use Rattle.std.proofs.lemmas.Grind.{common_steps}

-- a digit, by its value
digit_is : (d : ℕ) → digit_value d < 10 → (48 ≤ d) × (d < 58)
digit_is d small = let is : digit_value d + 48 ≡ d = digit_value_digit d (digit_from_value d small) in (omega (arith, is), omega (arith, is, small))

-- one digit alone
pub one_digit : (s : List ℕ) (d : ℕ) → length s ≡ 1 → d ≡ get_or s 0 0 → digit_value d < 10 → s ≡ decimal (d - 48)
one_digit [] d many is small = absurd (omega (arith, many))
one_digit (c ∷ []) d many is small = grind (arith, common_steps, digit_is, decimal_digit)
one_digit (c ∷ e ∷ s) d many is small = absurd (omega (arith, many))

-- two digits, of which the first isn't 0
pub two_digits : (s : List ℕ) (a b : ℕ) → length s ≡ 2 → a ≡ get_or s 0 0 → b ≡ get_or s 1 0 → (a ≡ 48 → ⊥) → digit_value a < 10 → digit_value b < 10 → s ≡ decimal (10 * (a - 48) + (b - 48))
two_digits [] a b many first second not_0 small less = absurd (omega (arith, many))
two_digits (c ∷ []) a b many first second not_0 small less = absurd (omega (arith, many))
two_digits (c ∷ d ∷ []) a b many first second not_0 small less = grind (arith, common_steps, digit_is, decimal_step, decimal_digit)
two_digits (c ∷ d ∷ e ∷ s) a b many first second not_0 small less = absurd (omega (arith, many))
