-- Entries of a program, as the model has them, and one more of them.
use Rattle.std.proofs.Common.{◌≡◌, ℕ, zero, suc, ◌+◌, ◌<◌, ◌≤◌, List, [], ◌∷◌, ◌++◌, length, get_or, map, option_map, Some, refl, sym, ap, ◌∙◌, subst, arith, slice_get}
use mathlib.Core.List.{IsPrefix}
use Rattle.volume_model.specs.Common.{Plan, after, world_at, before, IsRun, Goes, numbered}
use Rattle.volume_model.specs.Journal as model
use Rattle.volume_model.proofs.ListFacts.{get_there}
use Rattle.volume_model.proofs.FoundMessages.{made_numbered}
use Rattle.volume_model.proofs.Worlds.{before_more, runs_push, world_at-push, messages_push}
use Rattle.wire.specs.Common.{message_of, listed}
use Rattle.journal.specs.declared.entry.Entry.{Entry}
use Rattle.journal.specs.Entries.{entry_of, entries_of}
use Rattle.journal.proofs.Maps.{map-append, map-prefix, map-there, map-length}

-- how many there are
pub length-entries : (es : List Entry) → length (entries_of es) ≡ length es
length-entries es = map-length entry_of es

-- one more
pub entries_push : (es now : List Entry) (e : Entry) → now ≡ es ++ e ∷ [] → entries_of now ≡ entries_of es ++ entry_of e ∷ []
entries_push es now e longer = ap entries_of longer ∙ map-append entry_of es (e ∷ [])

-- a beginning of them
pub entries_begin : (es fs : List Entry) → IsPrefix es fs → IsPrefix (entries_of es) (entries_of fs)
entries_begin = map-prefix entry_of

-- the one at a place
pub entry_there : (es : List Entry) (k : ℕ) (e : Entry) → slice_get es k ≡ Some e → slice_get (entries_of es) k ≡ Some (entry_of e)
entry_there = map-there entry_of

pub firsts_push : (es : List Entry) (e : Entry) → map (λ x. x.first) (es ++ e ∷ []) ≡ map (λ x. x.first) es ++ e.first ∷ []
firsts_push [] e = refl
firsts_push (x ∷ es) e = ap (λ (l : List ℕ). x.first ∷ l) (firsts_push es e)

-- the entry at a place, and what is kept of it
pub first_at : (es : List Entry) (k x : ℕ) → k < length es → x ≡ get_or (map (λ e. e.first) es) k x → (e : Entry) × (slice_get es k ≡ Some e) × (e.first ≡ x)
first_at [] k x lt is = absurd (omega arith)
first_at (e ∷ es) zero x lt is = (e, refl, sym is)
first_at (e ∷ es) (suc k) x lt is = first_at es k x (omega arith) is

module _ (plan : Plan) where
  -- how many messages were made before a step
  pub before_at : (es : List Entry) (firsts : List ℕ) (k x : ℕ) → IsRun plan (entries_of es) → firsts ≡ map (λ e. e.first) es → k < length es → x ≡ get_or firsts k x → before plan (entries_of es) k ≡ x
  before_at es firsts k x run are lt is =
      let f = first_at es k x lt (is ∙ ap (λ l. get_or l k x) are) in sym (run k (entry_of f.0) (entry_there es k f.0 f.1)).1 ∙ f.2

  -- the numbers of the messages that the entry at a place made
  pub made_within : (es : List Entry) (cell number : ℕ) (e : Entry) → IsRun plan (entries_of es) → slice_get es cell ≡ Some e → before plan (entries_of es) cell < number → number ≤ before plan (entries_of es) (cell + 1)
      → (e.first < number) × (number ≤ e.first + length (listed e.made))
  made_within es cell number e run at low high =
      let there = entry_there es cell e at in
      let first = (run cell (entry_of e) there).1 in
      let more = before_more plan (entries_of es) cell (entry_of e) run there in
      let next : before plan (entries_of es) (cell + 1) ≡ before plan (entries_of es) (suc cell) = ap (before plan (entries_of es)) (let n : cell + 1 ≡ suc cell = omega arith in n) in
      (omega (arith, first, low), omega (arith, first, high, next, more, map-length message_of (listed e.made)))

  -- the message at a place of the entry at a place has this number
  pub letter_numbered : (es : List Entry) (cell index number : ℕ) (e : Entry) → IsRun plan (entries_of es) → slice_get es cell ≡ Some e → index < length (listed e.made) → number ≡ e.first + index + 1
      → numbered (world_at plan (entries_of es)).messages number ≡ option_map message_of (slice_get (listed e.made) index)
  letter_numbered es cell index number e run at inside is =
      let x = get_there (listed e.made) index inside in
      let here = map-there message_of (listed e.made) index x.0 x.1 in
      ap (numbered (world_at plan (entries_of es)).messages) is
      ∙ made_numbered plan (entries_of es) cell index (message_of x.0) (entry_of e) run (entry_there es cell e at) here
      ∙ sym (ap (option_map message_of) x.1)

  -- a run and one entry more
  pub entries_run : (es now : List Entry) (e : Entry) → now ≡ es ++ e ∷ [] → IsRun plan (entries_of es) → Goes plan (world_at plan (entries_of es)) (entry_of e) → IsRun plan (entries_of now)
  entries_run es now e longer run goes = subst (IsRun plan) (sym (entries_push es now e longer)) (runs_push plan (entries_of es) (entry_of e) run goes)

  -- the world after one entry more
  pub entries_world : (es now : List Entry) (e : Entry) → now ≡ es ++ e ∷ [] → world_at plan (entries_of now) ≡ after plan (world_at plan (entries_of es)) (entry_of e).event
  entries_world es now e longer = ap (world_at plan) (entries_push es now e longer) ∙ world_at-push plan (entries_of es) (entry_of e)

  -- how many messages there are after one entry more
  pub entries_messages : (es now : List Entry) (e : Entry) → now ≡ es ++ e ∷ [] → Goes plan (world_at plan (entries_of es)) (entry_of e)
      → length (world_at plan (entries_of now)).messages ≡ e.first + length (listed e.made)
  entries_messages es now e longer goes =
      let more = messages_push plan (entries_of es) (entry_of e) goes in
      ap (λ (l : List model.Entry). length (world_at plan l).messages) (entries_push es now e longer) ∙ more ∙ ap (λ n. e.first + n) (map-length message_of (listed e.made))
