-- The points of groups rise.
use Rattle.std.proofs.Common.{◌≡◌, ℕ, ◌≤◌, List, refl, inl, inr, arith}
use Rattle.std.proofs.lemmas.Bool.{cases_Bool, cases_lt}
use Rattle.volume_model.specs.Common.{Plan, Place, ClientGroup, group_point_of, raised, with_places, later_group, is_later}
use Rattle.volume_model.proofs.Groups.{set-all, group_of-beyond, group_of-with_places, later_group-none, group_of-raised}
use Rattle.writer_core.specs.GroupStates.{counted_in}
use Rattle.std.proofs.lemmas.Grind.{common_steps}

group_point_of-raised : (plan : Plan) (groups : List ClientGroup) (k : ℕ) → group_point_of groups k ≤ group_point_of (raised plan groups) k
group_point_of-raised plan groups k = grind (arith, common_steps, cases_lt, group_of-raised, group_of-beyond)

-- an acknowledgement was counted, and the points were raised
pub group_point_of-counted : (plan : Plan) (groups : List ClientGroup) (group sender reached k : ℕ) → group_point_of groups k ≤ group_point_of (raised plan (counted_in groups group sender reached)) k
group_point_of-counted plan groups group sender reached k = grind (arith, common_steps, set-all, group_point_of-raised)

later_point : (g : ClientGroup) (place : Place) → (later_group g place).group_point ≡ g.group_point
later_point g place = elim (cases_Bool (is_later g.place place)) [ inl e ↦ rw e refl | inr e ↦ rw e refl ]

-- groups were moved to later places, and the points were raised
pub group_point_of-with_places : (plan : Plan) (groups : List ClientGroup) (places : List Place) (k : ℕ) → group_point_of groups k ≤ group_point_of (raised plan (with_places later_group groups places)) k
group_point_of-with_places plan groups places k = grind (arith, common_steps, group_of-with_places, later_group-none, later_point, group_point_of-raised)
