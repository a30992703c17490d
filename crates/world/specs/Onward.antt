-- A volume whose groups can be read goes on: some events lead the next recovery to a commit of its own.
use Rattle.std.specs.Prelude.{◌≡◌, ℕ, suc, ◌+◌, ◌*◌, ◌^◌, ◌<◌, ◌≤◌, max, true, List, length}
use Rattle.volume_model.specs.Common.{KeepsClaims, last_lsn, of_group, last_start, Plan, most_copies, most_records, has_cut, World, Event, groups_joined, opening, run, Acknowledges}
use Rattle.plan.specs.Common.{HasWriteSets}
use Rattle.world.specs.Waiting.{CanBeRead, last_advance_waited}

-- What is left to the next recovery. Whichever client's log it goes on with: an LSN above its start, room for that log
-- in each group's segments, and for a record more in those of the first group. And each node may still make 64 copies
-- for each group.
pub record HasRoom (plan : Plan) (world : World) : Type 0 where
  pub lsn : (volume : ℕ) → has_cut (world.clients volume).stage ≡ true
      → max (last_lsn (world.clients volume).log) (last_start (world.clients volume).lineage) + plan.lal < 2 ^ 62
  pub fits : (volume group : ℕ) → has_cut (world.clients volume).stage ≡ true → group < groups_joined world.authority
      → length (of_group group (world.clients volume).log) ≤ most_records
  pub one_more : (volume : ℕ) → has_cut (world.clients volume).stage ≡ true
      → length (of_group 0 (world.clients volume).log) < most_records
  pub copies : (group x : ℕ) → (world.nodes group x).copied + 64 * groups_joined world.authority ≤ most_copies

-- some events lead the client of a volume epoch to acknowledge a commit of its own: one above its start
abbrev pub Commits : Plan → World → ℕ → Type 0
Commits plan world volume =
    (more : List Event) × (n : ℕ) × (last_start ((run plan world more).clients volume).lineage < n)
    × Acknowledges (run plan world more) volume n

-- If after these events each group that has joined can be read, a volume epoch is left, and there is room, some events
-- lead the recovery of the next volume epoch to a commit of its own.
abbrev pub VolumeGoesOn : Plan → List Event → Type 0
VolumeGoesOn plan events =
    ((group : ℕ) → group < groups_joined (run plan (opening plan) events).authority
    → CanBeRead plan (run plan (opening plan) events) group)
    → (run plan (opening plan) events).authority.last_volume < 4294967295
    → HasRoom plan (run plan (opening plan) events)
    → Commits plan (run plan (opening plan) events) (suc (run plan (opening plan) events).authority.last_volume)

-- This holds for every list of events if all claims of the plan hold, and the members of each configuration satisfy its
-- write expression.
abbrev pub ReadableVolumesCommit : Type 0
ReadableVolumesCommit = (plan : Plan) → KeepsClaims plan → HasWriteSets plan → (events : List Event)
    → VolumeGoesOn plan events

-- In every run each group whose last advance waited can be read.
abbrev pub WaitingGroupsCanBeRead : Plan → Type 0
WaitingGroupsCanBeRead plan = (group : ℕ) (events : List Event) → group < plan.groups
    → last_advance_waited plan (opening plan) group events true ≡ true
    → CanBeRead plan (run plan (opening plan) events) group
