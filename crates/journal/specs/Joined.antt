-- The number of groups that have joined.
use Rattle.std.specs.Prelude.{ℕ, ◌+◌}
use Rattle.volume_model.specs.Common.{Event, Grow}

-- the number after an event that isn't refused
abbrev pub joined_after : ℕ → Event → ℕ
joined_after joined Grow = joined + 1
joined_after joined event = joined
