-- What a client does before it is open: it sends fences, takes reports, cuts, sends installs and opens.
use Rattle.std.specs.Prelude.{ℕ, zero, suc, Bool, true, not, ◌&&◌, ◌==◌, nat_lt, if◌then◌else◌, List, [], ◌++◌, Ok, length, map, slice_set}
use Rattle.volume_model.specs.Answer.{◌>>=◌}
use Rattle.volume_model.specs.Lists.{every_below, each_below, joined}
use Rattle.volume_model.specs.Formula.{sat}
use Rattle.volume_model.specs.Redo.{Redo, of_group, cut_of, log_found}
use Rattle.volume_model.specs.Lineage.{Lineage, last_epoch, extension, Contents, newest, found_in}
use Rattle.volume_model.specs.Pieces.{in_pieces}
use Rattle.volume_model.specs.Plan.{Plan}
use Rattle.volume_model.specs.Message.{Label, Place, Message, place_in}
use Rattle.volume_model.specs.Message.Message.{Fence, Install}
use Rattle.volume_model.specs.Node.{From, senders, with_first, contents_of}
use Rattle.volume_model.specs.Refusal.{refuse_if}
use Rattle.volume_model.specs.declared.fault.Fault.TheVariants.{AlreadyDone, NoActor, NotReady}
use Rattle.volume_model.specs.Client.{is_born, has_cut, is_open, newly_at, group_of, place_of, reports_of, counts_of, Client, unborn, place_configuration, ClientStep, ClientAnswer, label_of}
use Rattle.volume_model.specs.Client.Stage.{Reading, Installing, Writing}
use Rattle.volume_model.specs.ClientPoints.{counted_by, raised}

-- one Fence for each chosen group; groups is their number
abbrev pub fences : ℕ → ℕ → (ℕ → Place) → (ℕ → Bool) → List Message
fences groups volume places chosen = each_below groups chosen (λ group. Fence group (label_of volume places group))

-- what a client sends to a group's members with Install
abbrev pub to_install : Lineage → List Redo → ℕ → Contents
to_install lineage found group = record { lineage = lineage; records = of_group group found }

-- the pieces of the Installs of each chosen group, in order of group, then piece
abbrev pub installs : ℕ → ℕ → (ℕ → Place) → Lineage → List Redo → (ℕ → Bool) → List Message
installs groups volume places lineage found chosen =
    joined (each_below groups chosen (λ group. in_pieces (to_install lineage found group)
    (Install group (label_of volume places group))))

-- the client after the first View of its epoch, with a Fence for each group
abbrev pub born_client : ℕ → List Place → ClientStep
born_client volume places =
    record {
      made = fences (length places) volume (place_in places) (λ group. true);
      client = record unborn { stage = Reading; groups = map newly_at places };
    }

-- a Report counts before the cut if it is of the present membership epoch and its lineage is older than the client's
-- epoch
abbrev pub report_taken : ℕ → Client → ℕ → Label → From → Client
report_taken volume client group label report =
    let now = group_of client.groups group in
    if (not (has_cut client.stage)) && (label.member == now.place.epoch && nat_lt (last_epoch report.contents.lineage)
    volume)
    then record client {
      groups = slice_set client.groups group
          (record now { reports = with_first report now.reports });
    }
    else client

-- the reports of groups 0 to n - 1
abbrev pub all_reports : (ℕ → List From) → ℕ → List Contents
all_reports reports zero = []
all_reports reports (suc group) = all_reports reports group ++ contents_of (reports group)

-- in each group that the client has, the senders of the kept reports satisfy the read expression
abbrev pub has_read : Plan → Client → Bool
has_read plan client = every_below (length client.groups)
    (λ group. sat (place_configuration plan group (place_of client.groups group)).read
    (senders (reports_of client.groups group)))

-- in each group that the client has, the members with a counted acknowledgement satisfy the write expression
abbrev pub has_installed : Plan → Client → Bool
has_installed plan client = every_below (length client.groups)
    (λ group. sat (place_configuration plan group (place_of client.groups group)).write
    (counted_by (counts_of client.groups group)))

-- the step of a cut, with the log that it found and the client's new lineage
abbrev pub cut_step : ℕ → Client → List Redo → Lineage → ClientStep
cut_step volume client found lineage = record {
  made = installs (length client.groups) volume (place_of client.groups) lineage found (λ group. true);
  client = record client { stage = Installing; lineage = lineage; found = found; log = found };
}

-- what all kept reports hold
abbrev pub reported : Client → List Contents
reported client = all_reports (reports_of client.groups) (length client.groups)

-- the records of all reports that are live in the newest lineage
abbrev pub live_reported : Client → List Redo
live_reported client =
    found_in (newest (reported client)) (reported client)

-- the log that a client finds by its reports
abbrev pub log_reported : Client → List Redo
log_reported client = log_found (live_reported client)

-- the answer to Cut
abbrev pub cut_client : Plan → ℕ → Client → ClientAnswer
cut_client plan volume client =
    let parent = newest (reported client) in
    let records = found_in parent (reported client) in
    refuse_if (not (is_born client.stage)) NoActor (
    refuse_if (has_cut client.stage) AlreadyDone (
    refuse_if (not (has_read plan client)) NotReady (
    extension parent volume (cut_of records) plan.lal >>= λ lineage. Ok (cut_step volume client (log_found records)
    lineage))))

-- the writer that a recovery becomes
abbrev pub writing : Plan → Client → Client
writing plan client = record client { stage = Writing; groups = raised plan client.groups }

-- the answer to Open
abbrev pub opened : Plan → Client → ClientAnswer
opened plan client =
    refuse_if (not (is_born client.stage)) NoActor (
    refuse_if (is_open client.stage) AlreadyDone (
    refuse_if (not (has_cut client.stage && has_installed plan client)) NotReady (
    Ok (record { made = []; client = writing plan client }))))
