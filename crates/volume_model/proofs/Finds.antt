-- What a client that has cut keeps, and what one that hasn't lacks
use Rattle.std.proofs.Common.{◌≡◌, ℕ, true, false, List, [], Ok, refl}
use Rattle.volume_model.specs.Common.{put, Plan, Label, Place, From, Stage, ClientStep, ClientGroup, has_cut, is_open, first_writer, unborn, Change, issued, report_taken, cut_client, opened, viewed, ack_taken, Unborn, Reading, Installing, Writing, World, Event, after, run, opening, StaysFound, FindsLast}
use Rattle.volume_model.specs.Client.{Client}
use Rattle.volume_model.proofs.ClientRelations.{AreSteps, event_on, run_on}
use Rattle.std.proofs.lemmas.Grind.{common_steps}
use Rattle.std.proofs.Common.{arith}

-- before its cut a client has found nothing and has no lineage, and before it is open its log is what it found
pub record IsTidy (client : Client) : Type 0 where
  pub no_lineage : has_cut client.stage ≡ false → client.lineage ≡ []
  pub none_found : has_cut client.stage ≡ false → client.found ≡ []
  pub log_found : is_open client.stage ≡ false → client.log ≡ client.found

-- what a step of a client keeps
pub record Keeps (old new : Client) : Type 0 where
  pub stays : has_cut old.stage ≡ true → StaysFound old new
  pub tidy : IsTidy old → IsTidy new

-- nothing but the groups changes
grouped : (client : Client) (groups : List ClientGroup) → Keeps client (record client { groups = groups })
grouped client groups = record { stays = λ h. record { cut_on = h; lineage_on = refl; found_on = refl }; tidy = λ t. record { no_lineage = t.no_lineage; none_found = t.none_found; log_found = t.log_found } }

same_keeps : (client : Client) → Keeps client client
same_keeps client = record { stays = λ h. record { cut_on = h; lineage_on = refl; found_on = refl }; tidy = λ t. t }

keeps_after : (a b c : Client) → Keeps a b → Keeps b c → Keeps a c
keeps_after a b c f g = grind (arith, common_steps)

module _ (plan : Plan) (v : ℕ) (client : Client) where
  -- the step keeps it
  abbrev IsKeeping : ClientStep → Type 0
  IsKeeping step = Keeps client step.client

  issue_keeps : (changes : List Change) (step : ClientStep) → issued plan v client changes ≡ Ok step → IsKeeping step
  issue_keeps changes step h = grind (arith, common_steps)

  cut_keeps : (step : ClientStep) → cut_client plan v client ≡ Ok step → IsKeeping step
  cut_keeps step h = grind (arith, common_steps)

  open_keeps : (step : ClientStep) → opened plan client ≡ Ok step → IsKeeping step
  open_keeps step h = grind (arith, common_steps)

  viewed_keeps : (places : List Place) (stage : Stage) → client.stage ≡ stage → IsKeeping (viewed plan v client places stage)
  viewed_keeps places Unborn e = grind (arith, common_steps)
  viewed_keeps places Reading e = grouped client _
  viewed_keeps places Installing e = grouped client _
  viewed_keeps places Writing e = grouped client _

  report_keeps : (group : ℕ) (l : Label) (from : From) → Keeps client (report_taken v client group l from)
  report_keeps group l from = grind (arith, common_steps)

  ack_keeps : (group : ℕ) (l : Label) (sender reached : ℕ) → Keeps client (ack_taken plan client group l sender reached)
  ack_keeps group l sender reached = grind (arith, common_steps)

steps : (plan : Plan) → AreSteps plan Keeps
steps plan = record { same = same_keeps; issue = issue_keeps plan; cut = cut_keeps plan; start = open_keeps plan; view = viewed_keeps plan; report = report_keeps plan; ack = ack_keeps plan }

pub event_keeps : (plan : Plan) (world : World) (event : Event) (y : ℕ) → Keeps (world.clients y) ((after plan world event).clients y)
event_keeps plan world event y = event_on plan Keeps (steps plan) world event y

pub run_keeps : (plan : Plan) (events : List Event) (world : World) (y : ℕ) → Keeps (world.clients y) ((run plan world events).clients y)
run_keeps plan events world y = run_on plan Keeps (steps plan) keeps_after events world y

opening_tidy : (plan : Plan) (y : ℕ) → IsTidy (put (λ volume. unborn) 1 (first_writer plan) y)
opening_tidy plan = grind (arith, common_steps)

pub run_tidy : (plan : Plan) (events : List Event) (y : ℕ) → IsTidy ((run plan (opening plan) events).clients y)
run_tidy plan events y = (run_keeps plan events (opening plan) y).tidy (opening_tidy plan y)

pub finds_last : FindsLast
finds_last plan world events volume cut = (run_keeps plan events world volume).stays cut
