-- The configurations above one, step by step.
use Rattle.std.proofs.Common.{◌≡◌, ℕ, zero, suc, ◌∙◌, arith}
use Rattle.volume_model.specs.Common.{Plan, parent_of, IsAbove, by_parent, by_ancestor}

-- the configuration so many steps above
abbrev pub ancestor : Plan → ℕ → ℕ → ℕ → ℕ
ancestor plan group zero c = c
ancestor plan group (suc steps) c = ancestor plan group steps (parent_of plan group c)

-- nothing stands above the root
none_above : (plan : Plan) (group a c : ℕ) → IsAbove plan group a c → c ≡ 0 → ⊥
none_above plan group a c (by_parent b d (low, is)) z = omega arith
none_above plan group a c (by_ancestor b p d (low, is) up) z = omega arith

-- and above a child of the root stands the root alone
pub above_first : (plan : Plan) (group a c : ℕ) → IsAbove plan group a c → parent_of plan group c ≡ 0 → a ≡ 0
above_first plan group a c (by_parent b d (low, is)) root = is ∙ root
above_first plan group a c (by_ancestor b p d (low, is) up) root = absurd (none_above plan group b p up (is ∙ root))
