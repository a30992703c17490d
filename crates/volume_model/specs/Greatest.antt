use Rattle.std.specs.Prelude.{◌≡◌, ℕ, ◌≤◌, ◌⊎◌}

-- n is the greatest number with property P, or 0 if there is none
pub record IsGreatest (P : ℕ → Type 0) (n : ℕ) : Type 0 where
  pub is_one : (n ≡ 0) ⊎ P n
  pub at_least_each : (m : ℕ) → P m → m ≤ n
