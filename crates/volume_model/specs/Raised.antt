-- How raising changes the groups of a client.
use Rattle.std.specs.Prelude.{◌≡◌, ℕ, ◌<◌, List, length}
use Rattle.volume_model.specs.Plan.{Plan}
use Rattle.volume_model.specs.Client.{ClientGroup, group_of}
use Rattle.volume_model.specs.ClientPoints.{raised, raised_group}

-- raising changes each group under its own number, and keeps their count
pub record EachGroupIsRaised : Type 0 where
  pub count : (plan : Plan) (groups : List ClientGroup) → length (raised plan groups) ≡ length groups
  pub each : (plan : Plan) (groups : List ClientGroup) (k : ℕ) → k < length groups → group_of (raised plan groups) k
      ≡ raised_group plan k (group_of groups k)
