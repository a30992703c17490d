-- The result of a script's run on threads.
use Rattle.std.specs.Prelude.{◌≡◌, ℕ, Bool, ◌+◌, ◌==◌, ◌&&◌, not, length, List, is_err}
use Rattle.std.specs.List.{list_any}
use Rattle.volume_model.specs.Common.{Plan, Event, IsRun, events, opening, results}
use Rattle.volume_model.specs.Journal.{Entry}
use Rattle.world.specs.Outcomes.{KeepsPromises, IsOutcomeOfRun}
use Rattle.drivers.specs.declared.driving.Driven.{Driven}

-- whether the run of these events refuses none of them, and they have this number
abbrev pub replays : Plan → List Event → ℕ → Bool
replays plan events steps = not (list_any (λ event_result. is_err event_result) (results plan (opening plan) events)) &&
    (length events == steps)

-- The threads' journal is a run of the model over the plan, for which every promise of the volume holds. Each event of
-- the script was made or refused. The outcome is that of the journal's run, which agrees if it refuses nothing and has
-- as many steps as were made.
pub record IsDriven (plan : Plan) (orders : ℕ) (driven : Driven) : Type 0 where
  pub entries : List Entry
  pub runs : IsRun plan entries
  pub promises : KeepsPromises plan (events entries)
  pub lines : driven.steps + driven.refused ≡ orders
  pub agrees : driven.agrees ≡ replays plan (events entries) driven.steps
  pub outcome : IsOutcomeOfRun plan (events entries) driven.outcome
