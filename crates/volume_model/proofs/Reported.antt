-- What clients and nodes keep of what they received is in messages that were made
use Rattle.std.proofs.Common.{◌≢◌, ℕ, ◌<◌, List, inl, inr}
use Rattle.std.proofs.lemmas.Bool.{cases_Bool}
use Rattle.volume_model.specs.Common.{IsIn, Plan, IsCertified, Report, From, has_cut, place_of, reports_of, World, Event, KeepsMade, ReportsWereMade}
use Rattle.volume_model.proofs.Invariant.{label}
use Rattle.volume_model.proofs.Kept.{IsKept}
use Rattle.volume_model.proofs.Carried.{end, held, kept}
use Rattle.volume_model.proofs.Records.{from_there}

module _ (plan : Plan) (certified : IsCertified plan) (events : List Event) where
  -- the world of the run
  abbrev world : World
  world = end plan certified events

  is_kept : IsKept plan (held plan certified events) world
  is_kept = kept plan certified events

  report_made : (v group : ℕ) → v ≢ 1 → group < plan.groups → (from : From) → IsIn from (reports_of (world.clients v).groups group) → (member : ℕ) × IsIn (Report group (label v member) from.sender from.contents) world.messages
  report_made v group later there from i =
      elim (cases_Bool (has_cut (world.clients v).stage)) [
        | inl cut ↦ elim ((is_kept.clients v).cut cut).origin [
          | inl root ↦ absurd (later root.one)
          | inr heir ↦ (let (at, made, below) = heir.event_result group there from i in (at, made))
        ]
        | inr not_cut ↦ ((place_of (world.clients v).groups group).epoch, ((is_kept.clients v).reading not_cut group (from_there (world.clients v).groups group from i) from i).0)
      ]

  keeps_made : KeepsMade plan world
  keeps_made = record {
    reports = report_made;
    copies = λ group x there copy i kept j. ((is_kept.nodes group x there).copies copy i).each kept j;
    installs = λ group x there pieces is kept j. ((is_kept.nodes group x there).install pieces is).each kept j;
  }

pub reports_were_made : ReportsWereMade
reports_were_made plan certified events = keeps_made plan certified events
