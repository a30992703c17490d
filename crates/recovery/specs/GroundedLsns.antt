-- The LSNs whose chain leads down to 0.
use Rattle.std.specs.Prelude.{ℕ, ◌==◌, Bool}
use Rattle.volume_model.specs.Common.{any}
use Rattle.recovery.specs.declared.grounded_lsns.GroundedLsns.{GroundedLsns}

-- the LSN is one of these
abbrev pub is_grounded : GroundedLsns → ℕ → Bool
is_grounded grounded n = any (λ m. m == n) grounded.numbers.items
