-- The formats of a plan's text.
use Rattle.std.specs.Prelude.{ℕ, Bool, true, false}
use Rattle.plan.specs.declared.formats.Format.{Format}
use Rattle.plan.specs.declared.formats.Format.TheVariants.{Plain, Weighted, Growing}

-- expressions may have weights
abbrev pub is_weighted : Format → Bool
is_weighted Plain = false
is_weighted Weighted = true
is_weighted Growing = true

-- the number of keys of a plan; only format 3 has the number of groups at birth
abbrev pub key_count : Format → ℕ
key_count Plain = 3
key_count Weighted = 3
key_count Growing = 4

-- the number of the format
abbrev pub number_of : Format → ℕ
number_of Plain = 1
number_of Weighted = 2
number_of Growing = 3
