-- Sums over numbers.
use Rattle.std.specs.Prelude.{ℕ, zero, suc, ◌+◌}

-- the sum of the values of f for the numbers below a bound
abbrev pub sum_below : (ℕ → ℕ) → ℕ → ℕ
sum_below f zero = 0
sum_below f (suc n) = sum_below f n + f n
