-- Points of groups that are raised by the counted acknowledgements.
use Rattle.std.specs.Prelude.{◌≡◌, ℕ, ◌<◌, ◌≤◌, true, List, length, slice_set}
use Rattle.volume_model.specs.Common.{sat, Plan, ClientGroup, group_of, group_point_of, place_configuration, best, counted_by, raised_group}

-- the greatest of a group's counted complete points that a write quorum has reached, else 0
abbrev pub counted_point : Plan → ℕ → ClientGroup → ℕ
counted_point plan number group = best (place_configuration plan number group.place).write group.counts group.counts

-- each group's point is at least the greatest one that its counted complete points reach
abbrev pub AreRaised : Plan → List ClientGroup → Type 0
AreRaised plan groups = (group : ℕ) → counted_point plan group (group_of groups group) ≤ group_point_of groups group

-- each group whose counted acknowledgements satisfy its write expression has joined
abbrev pub HaveJoined : Plan → List ClientGroup → Type 0
HaveJoined plan groups = (group : ℕ) → group < length groups
    → sat (place_configuration plan group (group_of groups group).place).write
    (counted_by (group_of groups group).counts) ≡ true → (group_of groups group).joined ≡ true

-- the groups with the point of one of them raised
abbrev pub raised_in : Plan → List ClientGroup → ℕ → List ClientGroup
raised_in plan groups group = slice_set groups group (raised_group plan group (group_of groups group))
