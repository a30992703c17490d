-- The printed text of a script's run on threads.
use Rattle.std.specs.Prelude.{◌≡◌, ℕ, ◌+◌, ◌==◌, ◌&&◌, Bool, true, false, if◌then◌else◌, List, ◌++◌, codes, map}
use Rattle.std.specs.Fmt.{decimal}
use Rattle.volume_model.specs.Common.{IsRun, events, Find, Opened, finds_in, writers_in, Plan, opening, run}
use Rattle.volume_model.specs.Journal.{Entry}
use Rattle.world.specs.Outcomes.{KeepsPromises, find_of, opened_of}
use Rattle.drivers.specs.Driven.{replays}
use Rattle.drivers.specs.declared.driving.Driven.{Driven}
use Rattle.commands.specs.RunText.{each_line, find_line, writer_line}

-- the lines with the numbers of events that were made and refused
abbrev pub numbers_lines : ℕ → ℕ → List ℕ
numbers_lines steps refused = codes "steps " ++ decimal steps ++ codes "\nrefused " ++ decimal refused ++ codes "\n"

-- the line that says whether the journal, run again, refuses nothing and has as many steps
abbrev pub journal_line : Bool → List ℕ
journal_line true = codes "journal yes\n"
journal_line false = codes "journal no\n"

-- the two numbers, a line for each opened writer and for each recovery that has cut, and the journal's line
abbrev pub fleet_text : ℕ → ℕ → List Opened → List Find → Bool → List ℕ
fleet_text steps refused writers finds agrees = ((numbers_lines steps refused ++ each_line writer_line writers)
    ++ each_line find_line finds) ++ journal_line agrees

-- 0 if no event was refused and the journal agrees, else 1
abbrev pub fleet_status : ℕ → Bool → ℕ
fleet_status refused agrees = if (refused == 0) && agrees then 0 else 1

-- The status and the text are those of this run on threads.
pub record PrintsDriven (driven : Driven) (status : ℕ) (text : List ℕ) : Type 0 where
  pub text_is : text ≡ fleet_text driven.steps driven.refused (map opened_of driven.outcome.writers.items)
      (map find_of driven.outcome.finds.items) driven.agrees
  pub status_is : status ≡ fleet_status driven.refused driven.agrees

-- The status and the text are those of a fleet's run of this many orders over a plan. The threads' journal is a run of
-- the model, for which every promise of the volume holds; each order was made or refused. The text has both numbers,
-- the opened writers and the recoveries that have cut after the journal's events, and whether the journal agrees. The
-- status is 0 exactly if nothing was refused and the journal agrees.
pub record PrintsFleet (plan : Plan) (orders : ℕ) (status : ℕ) (text : List ℕ) : Type 0 where
  pub entries : List Entry
  pub runs : IsRun plan entries
  pub promises : KeepsPromises plan (events entries)
  pub steps : ℕ
  pub refused : ℕ
  pub counted : steps + refused ≡ orders
  pub text_is : text ≡ fleet_text steps refused (writers_in (run plan (opening plan) (events entries)))
      (finds_in (run plan (opening plan) (events entries))) (replays plan (events entries) steps)
  pub status_is : status ≡ fleet_status refused (replays plan (events entries) steps)
