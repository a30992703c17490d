-- A recovery that is led to its cut.
use Rattle.std.specs.Prelude.{◌≡◌, ℕ, suc, ◌<◌, ◌⊎◌, List, Ok, Err}
use Rattle.volume_model.specs.Common.{KeepsClaims, Plan, ClientAnswer, ClientStep, cut_client, World, Event, groups_joined, opening, run}
use Rattle.volume_model.specs.declared.fault.Fault.TheVariants.{LsnSpent}
use Rattle.world.specs.Waiting.{CanBeRead}

-- the recovery of a volume epoch can cut, or its LSNs would begin above the greatest one
abbrev pub CanCut : Plan → World → ℕ → Type 0
CanCut plan world volume =
    ((step : ClientStep) × ◌≡◌ {A = ClientAnswer} (cut_client plan volume (world.clients volume)) (Ok step))
    ⊎ ◌≡◌ {A = ClientAnswer} (cut_client plan volume (world.clients volume)) (Err LsnSpent)

-- If all claims of the plan hold, each group that has joined can be read, and a volume epoch is left, some events lead
-- the recovery of the next volume epoch to its cut.
abbrev pub ReadableVolumesRecover : Type 0
ReadableVolumesRecover = (plan : Plan) → KeepsClaims plan → (events : List Event)
    → ((group : ℕ) → group < groups_joined (run plan (opening plan) events).authority
    → CanBeRead plan (run plan (opening plan) events) group)
    → (run plan (opening plan) events).authority.last_volume < 4294967295
    → (more : List Event) × CanCut plan (run plan (run plan (opening plan) events) more)
    (suc (run plan (opening plan) events).authority.last_volume)
