-- Records that are one chain.
use Rattle.std.specs.Prelude.{◌≡◌, ℕ, List, [], ◌∷◌}
use Rattle.volume_model.specs.Common.{Redo}

-- each record links to the one before it in the group, the first one to n; m is the LSN of the last one, or n if there
-- is none
abbrev pub IsOneChain : ℕ → List Redo → ℕ → Type 0
IsOneChain n [] m = n ≡ m
IsOneChain n (r ∷ rest) m = (r.prev_group ≡ n) × IsOneChain r.lsn rest m
