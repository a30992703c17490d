-- What an open client does: it issues records, sends one again, and asks for pages.
use Rattle.std.specs.Prelude.{ℕ, suc, ◌+◌, ◌^◌, Bool, true, false, not, ◌&&◌, ◌==◌, nat_lt, nat_le, if◌then◌else◌, List, [], ◌∷◌, Option, Some, None, Ok, Err, length, max}
use Rattle.volume_model.specs.Lists.{every}
use Rattle.volume_model.specs.Redo.{Redo, last_lsn, last_of_group, last_of_block, record_at}
use Rattle.volume_model.specs.Lineage.{last_start}
use Rattle.volume_model.specs.Plan.{Plan}
use Rattle.volume_model.specs.Message.{Place, Message}
use Rattle.volume_model.specs.Message.Message.{Write, PageAsk}
use Rattle.volume_model.specs.Refusal.{refuse_if}
use Rattle.volume_model.specs.declared.fault.Fault.TheVariants.{BadTransaction, LimitReached, LsnSpent, NoActor, NoGroup, NoLogRecord, NotJoined, NotOpen}
use Rattle.volume_model.specs.Client.{is_born, is_open, ClientGroup, group_of, place_of, Client, ClientStep, ClientAnswer, label_of}
use Rattle.volume_model.specs.ClientPoints.{durable_point}

-- a change that a transaction asks for
pub record Change : Type 0 where
  pub group : ℕ
  pub block : ℕ
  pub offset : ℕ
  pub bytes : List ℕ

-- the record of a change, appended to this log; point says whether it is a consistency point
abbrev pub record_of : ℕ → ℕ → List Redo → Change → Bool → Redo
record_of volume start log change point =
    record {
      lsn = suc (max (last_lsn log) start);
      volume = volume;
      prev_volume = last_lsn log;
      prev_group = last_of_group change.group log;
      prev_block = last_of_block change.group change.block log;
      group = change.group;
      block = change.block;
      offset = change.offset;
      bytes = change.bytes;
      point = point;
    }

-- no change follows
abbrev pub is_last : List Change → Bool
is_last [] = true
is_last (change ∷ more) = false

-- the log with the records of these changes
abbrev pub issued_log : ℕ → ℕ → List Change → List Redo → List Redo
issued_log volume start [] log = log
issued_log volume start (change ∷ more) log = issued_log volume start more (record_of volume start log change
    (is_last more) ∷ log)

-- the Writes of the new records, in their order
abbrev pub issued_writes : ℕ → (ℕ → Place) → ℕ → List Change → List Redo → List Message
issued_writes volume places start [] log = []
issued_writes volume places start (change ∷ more) log =
    let r = record_of volume start log change (is_last more) in
    Write change.group (label_of volume places change.group) r ∷ issued_writes volume places start more (r ∷ log)

-- the change is to one of the groups, and has 1 to 64 bytes that lie within a page
abbrev pub is_change : ℕ → Change → Bool
is_change groups change = nat_lt change.group groups && (nat_le 1 (length change.bytes) &&
    (nat_le (length change.bytes) 64 && nat_le (change.offset + length change.bytes) 512))

-- there are 1 to 32 changes, each of them valid
abbrev pub is_transaction : ℕ → List Change → Bool
is_transaction groups changes = nat_le 1 (length changes) && (nat_le (length changes) 32 && every (is_change groups)
    changes)

-- each group that the changes name has joined
abbrev pub have_joined : List ClientGroup → List Change → Bool
have_joined groups changes = every (λ change. (group_of groups change.group).joined) changes

-- the step of a transaction that isn't refused
abbrev pub issue_step : ℕ → Client → List Change → ClientStep
issue_step volume client changes = record {
  made = issued_writes volume (place_of client.groups) (last_start client.lineage) changes client.log;
  client = record client { log = issued_log volume (last_start client.lineage) changes client.log };
}

-- a writer's answer to a transaction
abbrev pub issued : Plan → ℕ → Client → List Change → ClientAnswer
issued plan volume client changes =
    let start = last_start client.lineage in
    let last = max (last_lsn client.log) start + length changes in
    refuse_if (not (is_born client.stage)) NoActor (
    refuse_if (not (is_open client.stage)) NotOpen (
    refuse_if (not (is_transaction (length client.groups) changes)) BadTransaction (
    refuse_if (not (have_joined client.groups changes)) NotJoined (
    refuse_if (nat_lt (2 ^ 62) last) LsnSpent (
    refuse_if (nat_lt (max (durable_point client) start + plan.lal) last) LimitReached (
    Ok (issue_step volume client changes)))))))

-- the Write of a record that was looked up
abbrev pub write_of : ℕ → Client → Option Redo → ClientAnswer
write_of volume client None = Err NoLogRecord
write_of volume client (Some r) = Ok (record {
  made = Write r.group (label_of volume (place_of client.groups) r.group) r
      ∷ [];
  client = client;
})

-- a writer's answer when it is asked to send a record again
abbrev pub resent : ℕ → Client → ℕ → ClientAnswer
resent volume client lsn =
    refuse_if (not (is_born client.stage)) NoActor (
    refuse_if (not (is_open client.stage)) NotOpen (
    write_of volume client (record_at client.log lsn)))

-- the greatest number of a group in the log that is not above n, else 0
abbrev pub last_of_group_below : ℕ → ℕ → List Redo → ℕ
last_of_group_below group n [] = 0
last_of_group_below group n (r ∷ older) =
    if r.group == group && nat_le r.lsn n then r.lsn else last_of_group_below group n older

-- a writer's answer when it is asked to read a page at the durable point
abbrev pub page_asked : ℕ → Client → ℕ → ℕ → ClientAnswer
page_asked volume client group block =
    refuse_if (not (is_born client.stage)) NoActor (
    refuse_if (not (is_open client.stage)) NotOpen (
    refuse_if (not (nat_lt group (length client.groups))) NoGroup (
    Ok (record {
      made = PageAsk group (label_of volume (place_of client.groups) group) block
          (last_of_group_below group (durable_point client) client.log) ∷ [];
      client = client;
    }))))
