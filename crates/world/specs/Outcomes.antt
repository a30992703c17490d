-- A program's outcome of a run.
use Rattle.std.specs.Prelude.{◌≡◌, ℕ, suc, ◌<◌, Bool, true, not, ◌&&◌, nat_le, nat_lt, if◌then◌else◌, List, [], ◌++◌, ◌∷◌, Ok, map}
use Rattle.volume_model.specs.Common.{Plan, IsIn, IsBeginningOf, each_below, Redo, up_to, Stage, has_cut, is_born, is_open, is_consistency_point, Event, Step, World, opening, run, results, step, Open, KeepsCommits, SaysTruePages, StaysSo, HasOneLineageAnEpoch, StaysFound, IsAtItsCut, IsOrderly, opened_client, found_client, writers_in, finds_in}
use Rattle.volume_model.specs.Client.{Client}
use Rattle.volume_model.specs.Outcome as model
use Rattle.world.specs.Onward.{VolumeGoesOn}
use Rattle.writer_core.specs.Log.{log_in}
use Rattle.writer_core.specs.Logs.{log_of_set}
use Rattle.lineage.specs.Lineage.{lineage_of}
use Rattle.recovery.specs.declared.found.Found.{Found}
use Rattle.world.specs.Actors.{plan_of, world_of, AreActors}
use Rattle.world.specs.declared.outcome.RecoveryOutcome.{RecoveryOutcome}
use Rattle.world.specs.declared.outcome.WriterOutcome.{WriterOutcome}
use Rattle.world.specs.declared.outcome.Outcome.{Outcome}

-- the opened writer of the model for an outcome
abbrev pub opened_of : WriterOutcome → model.Opened
opened_of w = record { volume = w.volume; start = w.start; log = log_in w.log; durable = w.durable }

-- the recovery of the model for an outcome
abbrev pub find_of : RecoveryOutcome → model.Find
find_of f = record {
  volume = f.volume;
  found = log_of_set f.found.log;
  cut = f.found.cut;
  lineage = lineage_of
      f.found.lineage;
}

-- a recovery that hasn't cut
abbrev pub is_reading : Stage → Bool
is_reading stage = is_born stage && not (has_cut stage)

-- the volume epochs of the recoveries that haven't cut, in growing order
abbrev pub readers_in : World → List ℕ
readers_in world =
    each_below (suc world.authority.last_volume) (λ volume. is_reading (world.clients volume).stage) (λ volume. volume)

-- the outcome of a client as a writer, if it is one
abbrev pub opened_by : ℕ → Client → List model.Opened
opened_by volume client = if is_open client.stage then opened_client volume client ∷ [] else []

-- the outcome of a client as a recovery, if it has cut. Writer 1 was never a recovery
abbrev pub found_by : ℕ → Client → List model.Find
found_by volume client = if nat_lt 1 volume && has_cut client.stage then found_client volume client ∷ [] else []

-- the volume epoch of a client, if it is a recovery that hasn't cut
abbrev pub read_by : ℕ → Client → List ℕ
read_by volume client = if is_reading client.stage then volume ∷ [] else []

-- The new outcome has this find of a recovery, too. Writer 1 was never a recovery.
pub record HasAddedFound (volume : ℕ) (found : Found) (old new : Outcome) : Type 0 where
  pub finds : map find_of new.finds.items ≡ map find_of old.finds.items ++ (if nat_lt 1 volume then find_of
      (record { volume = volume; found = found }) ∷ [] else [])
  pub writers : new.writers ≡ old.writers
  pub readers : new.readers ≡ old.readers
  pub results : new.results ≡ old.results
  pub actors : new.actors ≡ old.actors

-- The new outcome has that of this client, too.
pub record HasAdded (volume : ℕ) (client : Client) (old new : Outcome) : Type 0 where
  pub writers : map opened_of new.writers.items ≡ map opened_of old.writers.items ++ opened_by volume client
  pub finds : map find_of new.finds.items ≡ map find_of old.finds.items ++ found_by volume client
  pub readers : new.readers.items ≡ old.readers.items ++ read_by volume client
  pub results : new.results ≡ old.results
  pub actors : new.actors ≡ old.actors

-- What was acknowledged after some of the events stays acknowledged to their end, with the same log before it, and no
-- opened writer's durable point falls.
abbrev pub KeepsAcknowledgements : Plan → List Event → Type 0
KeepsAcknowledgements plan events = (earlier later : List Event) → earlier ++ later ≡ events
    → StaysSo (run plan (opening plan) earlier) (run plan (opening plan) events)

-- A client that has cut after some of the events keeps its lineage and its log found to their end.
abbrev pub KeepsFinds : Plan → List Event → Type 0
KeepsFinds plan events =
    (earlier later : List Event) (volume : ℕ) → earlier ++ later ≡ events
    → has_cut ((run plan (opening plan) earlier).clients volume).stage ≡ true
    → StaysFound ((run plan (opening plan) earlier).clients volume) ((run plan (opening plan) events).clients
    volume)

-- Each client that opens among the events has its cut as its durable point then.
abbrev pub OpenAtTheirCuts : Plan → List Event → Type 0
OpenAtTheirCuts plan events =
    (earlier later : List Event) (volume : ℕ) (opened : Step) → earlier ++ Open volume ∷ later ≡ events
    → step plan (run plan (opening plan) earlier) (Open volume) ≡ Ok opened
    → IsAtItsCut (opened.world.clients volume)

-- The outcome is that of the model's run of these events: the result of each event, and at the end the opened writers
-- and the recoveries. Its nodes are those of the model's world.
pub record IsOutcomeOfRun (plan : Plan) (events : List Event) (outcome : Outcome) : Type 0 where
  pub results_are : outcome.results.items ≡ results plan (opening plan) events
  pub writers_are : map opened_of outcome.writers.items ≡ writers_in (run plan (opening plan) events)
  pub finds_are : map find_of outcome.finds.items ≡ finds_in (run plan (opening plan) events)
  pub readers_are : outcome.readers.items ≡ readers_in (run plan (opening plan) events)
  pub are : AreActors outcome.actors
  pub plan_is : plan_of outcome.actors ≡ plan
  pub nodes_are : (world_of outcome.actors).nodes ≡ (run plan (opening plan) events).nodes

-- Every promise of the volume holds for the run of these events.
pub record KeepsPromises (plan : Plan) (events : List Event) : Type 0 where
  -- each commit that any writer acknowledges, and the whole log before it, is in the log found by every recovery of a
  -- later volume epoch, and no two different records are acknowledged under one LSN
  pub commits : KeepsCommits (run plan (opening plan) events)
  -- each page that any node made is the page of its writer's log at the requested point
  pub pages : SaysTruePages (run plan (opening plan) events)
  -- what was acknowledged stays acknowledged
  pub acknowledgements_last : KeepsAcknowledgements plan events
  -- a log found never changes
  pub finds_last : KeepsFinds plan events
  -- two lineages with the same last volume epoch are equal
  pub one_lineage_an_epoch : HasOneLineageAnEpoch (run plan (opening plan) events)
  -- a client's durable point is its cut when it opens
  pub opens_at_its_cut : OpenAtTheirCuts plan events
  -- the epochs of each lineage grow, and the links of each record lead to smaller LSNs
  pub orderly : IsOrderly (run plan (opening plan) events)
  -- if each group can be read, some events lead the next recovery to a commit of its own
  pub goes_on : VolumeGoesOn plan events

-- the same for every list of events
abbrev pub PromisesRuns : Plan → Type 0
PromisesRuns plan = (events : List Event) → KeepsPromises plan events

-- The writer has acknowledged this commit: it is a consistency point of the writer's log up to its durable point.
abbrev pub HasAcknowledged : WriterOutcome → ℕ → Type 0
HasAcknowledged writer n = (is_consistency_point n (log_in writer.log) && nat_le n writer.durable) ≡ true

-- the records that an acknowledged commit n covers: the writer's log up to n
abbrev pub covered_by : WriterOutcome → ℕ → List Redo
covered_by writer n = up_to n (log_in writer.log)

-- The promise for what a run returns: each commit that a returned writer has acknowledged, and the whole log before it,
-- is in the log found by each returned recovery of a later volume epoch, and returned writers acknowledged no two
-- different records under one LSN.
pub record KeepsReturned (outcome : Outcome) : Type 0 where
  pub found_later : (writer : WriterOutcome) (find : RecoveryOutcome) (n : ℕ) → IsIn writer outcome.writers.items
      → IsIn find outcome.finds.items → writer.volume < find.volume → HasAcknowledged writer n → IsBeginningOf
      (covered_by writer n) (log_of_set find.found.log)
  pub one_record : (writer other : WriterOutcome) (n m : ℕ) (r s : Redo) → IsIn writer outcome.writers.items
      → IsIn other outcome.writers.items → HasAcknowledged writer n → HasAcknowledged other m
      → IsIn r (covered_by writer n) → IsIn s (covered_by other m) → r.lsn ≡ s.lsn → r ≡ s
