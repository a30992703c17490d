-- A group that no later recovery can read.
use Rattle.std.specs.Prelude.{◌≡◌, ℕ, ◌<◌, ◌≤◌, true, false, List}
use Rattle.volume_model.specs.Common.{Plan, IsCertified, epoch_of, is_named, sat, has_cut, World, Event, configuration_of, groups_joined, opening, run}
use Rattle.world.specs.Waiting.{whole_in}

-- each node of the group has taken the step to the group's configuration
abbrev pub HaveTakenStep : Plan → World → ℕ → Type 0
HaveTakenStep plan world group = (x : ℕ) → is_named plan group x ≡ true
    → epoch_of plan group (configuration_of world.authority group) ≤ (world.nodes group x).place.epoch

-- no recovery whose volume epoch isn't assigned yet ever cuts, whatever happens
abbrev pub IsLost : Plan → World → Type 0
IsLost plan world = (more : List Event) (volume : ℕ) → world.authority.last_volume < volume
    → has_cut ((run plan world more).clients volume).stage ≡ false

-- If each node of a group has taken its last step, and its whole members don't satisfy the read expression of its
-- configuration, the volume is lost.
abbrev pub EarlyStepsLose : Type 0
EarlyStepsLose = (plan : Plan) → IsCertified plan → (events : List Event) (group : ℕ)
    → group < groups_joined (run plan (opening plan) events).authority
    → HaveTakenStep plan (run plan (opening plan) events) group
    → sat (plan.configuration group (configuration_of (run plan (opening plan) events).authority group)).read
    (whole_in (run plan (opening plan) events) group) ≡ false
    → IsLost plan (run plan (opening plan) events)
