-- The grammar of a script's lines.
use Rattle.std.specs.Prelude.{ℕ, ◌==◌, ◌&&◌, nat_le, if◌then◌else◌, Bool, true, List, [], ◌∷◌, Option, Some, None, codes, find, option_and_then, option_map}
use Rattle.std.specs.Str.{bytes_eq}
use Rattle.volume_model.specs.Common.{Change, Event}
use Rattle.drivers.specs.Words.{words_in, fields_in, sides_in, number_in, bytes_in}
use Rattle.drivers.specs.declared.line.Verb.{Verb}
use Rattle.drivers.specs.declared.line.Verb.TheVariants as verb

-- The action of a line: nothing, for an empty line or a comment; a wait for the lines before it; an event; or the
-- delivery of a message that an earlier line made to a node or a client. The line and the message's place in it are
-- counted from 1.
pub data LineAction : Type 0 where
  Nothing : LineAction
  Pauses : LineAction
  Makes : Event → LineAction
  Delivers : (group member line place : ℕ) → LineAction
  Takes : (volume line place : ℕ) → LineAction

-- the first word of a line with this verb
abbrev pub name_of : Verb → List ℕ
name_of verb.Assign = codes "assign"
name_of verb.Advance = codes "advance"
name_of verb.Refresh = codes "refresh"
name_of verb.Grow = codes "grow"
name_of verb.Issue = codes "issue"
name_of verb.Take = codes "take"
name_of verb.Cut = codes "cut"
name_of verb.Open = codes "open"
name_of verb.Resend = codes "resend"
name_of verb.Read = codes "read"
name_of verb.Deliver = codes "deliver"
name_of verb.Hydrate = codes "hydrate"
name_of verb.Restart = codes "restart"
name_of verb.Offer = codes "offer"
name_of verb.Wait = codes "wait"

-- all verbs
abbrev pub verbs : List Verb
verbs = verb.Assign ∷ verb.Advance ∷ verb.Refresh ∷ verb.Grow ∷ verb.Issue ∷ verb.Take ∷ verb.Cut ∷ verb.Open ∷
    verb.Resend ∷ verb.Read ∷ verb.Deliver ∷ verb.Hydrate ∷ verb.Restart ∷ verb.Offer ∷ verb.Wait ∷ []

-- the verb with this name
abbrev pub verb_in : List ℕ → Option Verb
verb_in word = find (λ v. bytes_eq (name_of v) word) verbs

-- the greatest number of a group or member, of an offset, of a volume epoch, configuration or block, and of a line,
-- message or record
abbrev pub most_ids : ℕ
most_ids = 255

abbrev pub most_offsets : ℕ
most_offsets = 65535

abbrev pub most_blocks : ℕ
most_blocks = 4294967295

abbrev pub most_numbers : ℕ
most_numbers = 18446744073709551615

-- a change to a block of a group: its offset and its bytes
abbrev pub change_at : ℕ → ℕ → List ℕ → List ℕ → Option Change
change_at group block offset bytes = option_and_then
    (λ o. option_map (λ hex. record { group = group; block = block; offset = o; bytes = hex }) (bytes_in bytes))
    (number_in most_offsets offset)

-- a change by its fields: group, block, offset, bytes
abbrev pub change_by : List (List ℕ) → Option Change
change_by (group ∷ block ∷ offset ∷ bytes ∷ []) = option_and_then
    (λ g. option_and_then (λ b. change_at g b offset bytes) (number_in most_blocks block)) (number_in most_ids group)
change_by _ = None

abbrev pub changes_in : List (List ℕ) → Option (List Change)
changes_in [] = Some []
changes_in (word ∷ words) = option_and_then (λ change. option_map (λ later. change ∷ later) (changes_in words))
    (change_by (fields_in word))

-- `issue V CHANGE ..`, with at least one change
abbrev pub issue_in : List (List ℕ) → Option Event
issue_in (volume ∷ change ∷ more) = option_and_then (λ v. option_map (λ changes. Event.Issue v changes)
    (changes_in (change ∷ more))) (number_in most_blocks volume)
issue_in _ = None

-- `assign`
abbrev pub assign_in : List (List ℕ) → Option Event
assign_in [] = Some Event.Assign
assign_in _ = None

-- `advance G C`
abbrev pub advance_in : List (List ℕ) → Option Event
advance_in (group ∷ configuration ∷ []) = option_and_then
    (λ g. option_map (λ c. Event.Advance g c) (number_in most_blocks configuration)) (number_in most_ids group)
advance_in _ = None

-- `refresh V`
abbrev pub refresh_in : List (List ℕ) → Option Event
refresh_in (volume ∷ []) = option_map (λ v. Event.Refresh v) (number_in most_blocks volume)
refresh_in _ = None

-- `grow`
abbrev pub grow_in : List (List ℕ) → Option Event
grow_in [] = Some Event.Grow
grow_in _ = None

-- `cut V`
abbrev pub cut_in : List (List ℕ) → Option Event
cut_in (volume ∷ []) = option_map (λ v. Event.Cut v) (number_in most_blocks volume)
cut_in _ = None

-- `open V`
abbrev pub open_in : List (List ℕ) → Option Event
open_in (volume ∷ []) = option_map (λ v. Event.Open v) (number_in most_blocks volume)
open_in _ = None

-- `resend V N`
abbrev pub resend_in : List (List ℕ) → Option Event
resend_in (volume ∷ lsn ∷ []) = option_and_then (λ v. option_map (λ n. Event.Resend v n) (number_in most_numbers lsn))
    (number_in most_blocks volume)
resend_in _ = None

-- `read V G B`
abbrev pub read_in : List (List ℕ) → Option Event
read_in (volume ∷ group ∷ block ∷ []) = option_and_then
    (λ v. option_and_then (λ g. option_map (λ b. Event.Read v g b) (number_in most_blocks block))
    (number_in most_ids group)) (number_in most_blocks volume)
read_in _ = None

-- `hydrate G M`
abbrev pub hydrate_in : List (List ℕ) → Option Event
hydrate_in (group ∷ member ∷ []) = option_and_then
    (λ g. option_map (λ m. Event.Hydrate g m) (number_in most_ids member)) (number_in most_ids group)
hydrate_in _ = None

-- `restart G M`
abbrev pub restart_in : List (List ℕ) → Option Event
restart_in (group ∷ member ∷ []) = option_and_then
    (λ g. option_map (λ m. Event.Restart g m) (number_in most_ids member)) (number_in most_ids group)
restart_in _ = None

-- `offer G M N`
abbrev pub offer_in : List (List ℕ) → Option Event
offer_in (group ∷ member ∷ lsn ∷ []) = option_and_then
    (λ g. option_and_then (λ m. option_map (λ n. Event.Offer g m n) (number_in most_numbers lsn))
    (number_in most_ids member)) (number_in most_ids group)
offer_in _ = None

-- `L.K`, where L is one of the earlier lines: the line and the place
abbrev pub name_in : ℕ → List (List ℕ) → Option (ℕ × ℕ)
name_in earlier (line ∷ place ∷ []) =
    option_and_then (λ l. option_and_then (λ p. if nat_le 1 l && nat_le l earlier && nat_le 1 p then Some (l, p) else
    None)
    (number_in most_numbers place)) (number_in most_numbers line)
name_in earlier _ = None

-- `deliver G M L.K`
abbrev pub deliver_in : ℕ → List (List ℕ) → Option LineAction
deliver_in earlier (group ∷ member ∷ name ∷ []) =
    option_and_then (λ g. option_and_then
    (λ m. option_map (λ n. Delivers g m n.0 n.1) (name_in earlier (sides_in name))) (number_in most_ids member))
    (number_in most_ids group)
deliver_in earlier _ = None

-- `take V L.K`
abbrev pub take_in : ℕ → List (List ℕ) → Option LineAction
take_in earlier (volume ∷ name ∷ []) = option_and_then
    (λ v. option_map (λ n. Takes v n.0 n.1) (name_in earlier (sides_in name))) (number_in most_blocks volume)
take_in earlier _ = None

-- `wait`
abbrev pub wait_in : List (List ℕ) → Option LineAction
wait_in [] = Some Pauses
wait_in _ = None

-- the action of a verb with the words after it; earlier is the number of lines before
abbrev pub read_verb : ℕ → Verb → List (List ℕ) → Option LineAction
read_verb earlier verb.Assign words = option_map Makes (assign_in words)
read_verb earlier verb.Advance words = option_map Makes (advance_in words)
read_verb earlier verb.Refresh words = option_map Makes (refresh_in words)
read_verb earlier verb.Grow words = option_map Makes (grow_in words)
read_verb earlier verb.Issue words = option_map Makes (issue_in words)
read_verb earlier verb.Take words = take_in earlier words
read_verb earlier verb.Cut words = option_map Makes (cut_in words)
read_verb earlier verb.Open words = option_map Makes (open_in words)
read_verb earlier verb.Resend words = option_map Makes (resend_in words)
read_verb earlier verb.Read words = option_map Makes (read_in words)
read_verb earlier verb.Deliver words = deliver_in earlier words
read_verb earlier verb.Hydrate words = option_map Makes (hydrate_in words)
read_verb earlier verb.Restart words = option_map Makes (restart_in words)
read_verb earlier verb.Offer words = option_map Makes (offer_in words)
read_verb earlier verb.Wait words = wait_in words

-- the action of all words of a line
abbrev pub said : ℕ → List (List ℕ) → Option LineAction
said earlier [] = None
said earlier (word ∷ words) = option_and_then (λ verb. read_verb earlier verb words) (verb_in word)

-- an empty line, and a comment
abbrev pub is_silent : List ℕ → Bool
is_silent [] = true
is_silent (first ∷ more) = first == 35

-- the action of a line; None if it isn't in the grammar
abbrev pub action_of : ℕ → List ℕ → Option LineAction
action_of earlier line = if is_silent line then Some Nothing else said earlier (words_in line)
