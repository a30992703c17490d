-- One record more of a transaction.
use Rattle.std.proofs.Common.{◌≡◌, ℕ, zero, suc, ◌+◌, ◌<◌, ◌≤◌, ◌^◌, true, nat_eq, List, [], ◌∷◌, ◌++◌, max, length, drop, get_or, take, refl, sym, ap, ap₂, ◌∙◌, arith, drop-cons, add-one}
use Rattle.std.proofs.lemmas.List.{take-append-le, length-take}
use Rattle.std.proofs.lemmas.Bool.Decides.{nat_tests}
use Rattle.volume_model.specs.Common.{every, last_lsn, record_of, is_last, issued_log, issued_writes, is_change}
use Rattle.volume_model.specs.Message as model
use Rattle.volume_model.specs.Client as client
use Rattle.redo_record.specs.declared.shared_record.SharedRecord.{SharedRecord}
use Rattle.redo_record.specs.Common.{shared_redo}
use Rattle.wire.specs.declared.message.Message.{Message}
use Rattle.wire.specs.Common.{message_of, messages_of}
use Rattle.writer_core.specs.declared.change.Change.{Change}
use Rattle.writer_core.specs.Logs.{log_of}
use Rattle.writer_core.specs.Changes.{change_of, changes_of}
use Rattle.writer_core.proofs.Logs.{log_of-push}
use Rattle.std.proofs.lemmas.Grind.{common_steps}
use Rattle.std.proofs.Common.{rules}

last_here : (changes : List Change) (i : ℕ) → i < length changes → nat_eq (i + 1) (length changes) ≡ is_last (changes_of (drop (i + 1) changes))
last_here [] i h = absurd (omega arith)
last_here (x ∷ []) zero h = refl
last_here (x ∷ y ∷ ys) zero h = grind (arith, nat_tests)
last_here (x ∷ xs) (suc i) h = search (rules, nat_eq, nat_tests, (last_here xs i (omega arith)))

-- the change at hand, before the rest
here_is : (changes : List Change) (i : ℕ) (change : Change) → i < length changes → change ≡ get_or changes i change → changes_of (drop i changes) ≡ change_of change ∷ changes_of (drop (i + 1) changes)
here_is changes i change within is = ap changes_of (drop-cons changes i change within) ∙ ap₂ (λ x n. change_of x ∷ changes_of (drop n changes)) (sym is) (sym (add-one i))

-- what a good change keeps to
pub record IsGood (groups : ℕ) (change : Change) : Type 0 where
  pub group : (change_of change).group < groups
  pub place : (change_of change).offset + length (change_of change).bytes ≤ 512

module _ (volume start : ℕ) (places : ℕ → model.Place) (changes : List Change) (i : ℕ) (change : Change) (within : i < length changes) (is : change ≡ get_or changes i change) (records : List SharedRecord) (p : SharedRecord) (made : shared_redo p ≡ record_of volume start (log_of records) (change_of change) (nat_eq (i + 1) (length changes))) where
  pub rest_is : changes_of (drop i changes) ≡ change_of change ∷ changes_of (drop (i + 1) changes)
  rest_is = here_is changes i change within is

  record_is : shared_redo p ≡ record_of volume start (log_of records) (change_of change) (is_last (changes_of (drop (i + 1) changes)))
  record_is = made ∙ ap (record_of volume start (log_of records) (change_of change)) (last_here changes i within)

  log_is : log_of (records ++ p ∷ []) ≡ record_of volume start (log_of records) (change_of change) (is_last (changes_of (drop (i + 1) changes))) ∷ log_of records
  log_is = log_of-push records p ∙ ap (λ s. s ∷ log_of records) record_is

  pub logged_on : issued_log volume start (changes_of (drop (i + 1) changes)) (log_of (records ++ p ∷ [])) ≡ issued_log volume start (changes_of (drop i changes)) (log_of records)
  logged_on = ap (issued_log volume start (changes_of (drop (i + 1) changes))) log_is ∙ sym (ap (λ cs. issued_log volume start cs (log_of records)) rest_is)

  pub written_on : (m : model.Message) → m ≡ model.Message.Write (change_of change).group (client.label_of volume places (change_of change).group) (shared_redo p) → m ∷ issued_writes volume places start (changes_of (drop (i + 1) changes)) (log_of (records ++ p ∷ [])) ≡ issued_writes volume places start (changes_of (drop i changes)) (log_of records)
  written_on m e = grind (arith, common_steps, record_is, log_is, rest_is)

  pub room_on : max (last_lsn (log_of records)) start + length (drop i changes) ≤ 2 ^ 62 → max (last_lsn (log_of (records ++ p ∷ []))) start + length (drop (i + 1) changes) ≤ 2 ^ 62
  room_on h = grind (arith, common_steps)

  pub good_on : (groups : ℕ) → every (is_change groups) (changes_of (drop i changes)) ≡ true → (is_change groups (change_of change) ≡ true) × (every (is_change groups) (changes_of (drop (i + 1) changes)) ≡ true)
  good_on groups h = grind (arith, common_steps)

pub front_on : {A : Type 0} (records : List A) (p : A) (front : List A) → take (length front) records ≡ front → take (length front) (records ++ p ∷ []) ≡ front
front_on records p front e =
    let l : length (take (length front) records) ≡ length front = ap length e in
    let within : length front ≤ length records = omega (arith, l, length-take (length front) records) in
    take-append-le (length front) records (p ∷ []) within ∙ e

pub messages_on : (messages : List Message) (m : Message) (rest whole : List model.Message) → message_of m ∷ rest ≡ whole → messages_of (messages ++ m ∷ []) ++ rest ≡ messages_of messages ++ whole
messages_on [] m rest whole e = e
messages_on (x ∷ messages) m rest whole e = ap (λ ms. message_of x ∷ ms) (messages_on messages m rest whole e)
