-- The canonical bytes of each message and of its parts.
use Rattle.std.specs.Prelude.{◌≡◌, ◌<◌, ◌+◌, ◌^◌, ℕ, List, [], ◌∷◌, ◌++◌, length, Ok}
use Rattle.std.specs.Int.{w16, w32, w64, to_be_bytes}
use Rattle.volume_model.specs.Common.{Redo, Lineage, Contents, Label, Place, Message, View, StepTo, Fence, Report, Install, Write, Gossip, Ack, CopyAsk, CopyReport, PageAsk, Page, Piece}
use Rattle.volume_model.specs.Lineage.{Entry}
use Rattle.redo_record.specs.Common.{spelled, decoded}
use Rattle.message_bytes.specs.Reading.{body_at}

abbrev pub label_spelled : Label → List ℕ
label_spelled label = to_be_bytes w32 label.volume ++ to_be_bytes w32 label.member

-- a group and a label
abbrev pub labelled_spelled : ℕ → Label → List ℕ
labelled_spelled group label = group ∷ label_spelled label

abbrev pub place_spelled : Place → List ℕ
place_spelled place = place.configuration ∷ to_be_bytes w32 place.epoch

abbrev pub places_spelled : List Place → List ℕ
places_spelled [] = []
places_spelled (place ∷ rest) = place_spelled place ++ places_spelled rest

abbrev pub piece_spelled : Piece → List ℕ
piece_spelled piece = to_be_bytes w16 piece.number ++ to_be_bytes w16 piece.of

abbrev pub entry_spelled : Entry → List ℕ
entry_spelled e = to_be_bytes w32 e.volume ++ (to_be_bytes w64 e.cut ++ to_be_bytes w64 e.start)

-- the entries of a lineage, oldest first
abbrev pub entries_spelled : Lineage → List ℕ
entries_spelled [] = []
entries_spelled (e ∷ older) = entries_spelled older ++ entry_spelled e

-- the records, in order; each has its own length
abbrev pub records_spelled : List Redo → List ℕ
records_spelled [] = []
records_spelled (r ∷ rest) = spelled r ++ records_spelled rest

-- the number of entries, and the entries
abbrev pub lineage_spelled : Lineage → List ℕ
lineage_spelled lineage = to_be_bytes w32 (length lineage) ++ entries_spelled lineage

-- the number of records, and the records
abbrev pub set_spelled : List Redo → List ℕ
set_spelled records = to_be_bytes w32 (length records) ++ records_spelled records

-- what stands before the records of contents
abbrev pub contents_head : Contents → List ℕ
contents_head c = lineage_spelled c.lineage ++ to_be_bytes w32 (length c.records)

abbrev pub contents_spelled : Contents → List ℕ
contents_spelled c = lineage_spelled c.lineage ++ set_spelled c.records

-- the number of a message's kind
abbrev pub kind_of : Message → ℕ
kind_of (View volume places) = 1
kind_of (StepTo group place) = 2
kind_of (Fence group label) = 3
kind_of (Report group label from c) = 4
kind_of (Install group label piece c) = 5
kind_of (Write group label r) = 6
kind_of (Gossip group label r) = 7
kind_of (Ack group label from scl) = 8
kind_of (CopyAsk group epoch) = 9
kind_of (CopyReport group epoch from series piece c) = 10
kind_of (PageAsk group label block point) = 11
kind_of (Page group label from block point image) = 12

-- the fields of a message, in order
abbrev pub body_spelled : Message → List ℕ
body_spelled (View volume places) = to_be_bytes w32 volume ++ (to_be_bytes w32 (length places) ++ places_spelled places)
body_spelled (StepTo group place) = group ∷ place_spelled place
body_spelled (Fence group label) = labelled_spelled group label
body_spelled (Report group label from c) = labelled_spelled group label ++ (from ∷ contents_spelled c)
body_spelled (Install group label piece c) = labelled_spelled group label ++ (piece_spelled piece ++ contents_spelled c)
body_spelled (Write group label r) = labelled_spelled group label ++ spelled r
body_spelled (Gossip group label r) = labelled_spelled group label ++ spelled r
body_spelled (Ack group label from scl) = labelled_spelled group label ++ (from ∷ to_be_bytes w64 scl)
body_spelled (CopyAsk group epoch) = group ∷ to_be_bytes w32 epoch
body_spelled (CopyReport group epoch from series piece c) = (group ∷ to_be_bytes w32 epoch)
    ++ ((from ∷ to_be_bytes w64 series) ++ (piece_spelled piece ++ contents_spelled c))
body_spelled (PageAsk group label block point) = labelled_spelled group label
    ++ (to_be_bytes w32 block ++ to_be_bytes w64 point)
body_spelled (Page group label from block point image) = labelled_spelled group label ++ ((from ∷ to_be_bytes w32 block)
    ++ (to_be_bytes w64 point ++ image))

-- the number of bytes of a message without lists; 0 for a message with lists
abbrev pub fixed_size : Message → ℕ
fixed_size (View volume places) = 0
fixed_size (StepTo group place) = 8
fixed_size (Fence group label) = 11
fixed_size (Report group label from c) = 0
fixed_size (Install group label piece c) = 0
fixed_size (Write group label r) = 11 + length (spelled r)
fixed_size (Gossip group label r) = 11 + length (spelled r)
fixed_size (Ack group label from scl) = 20
fixed_size (CopyAsk group epoch) = 7
fixed_size (CopyReport group epoch from series piece c) = 0
fixed_size (PageAsk group label block point) = 23
fixed_size (Page group label from block point image) = 536

-- a message's kind and its fields
abbrev pub tagged_spelled : Message → List ℕ
tagged_spelled m = kind_of m ∷ body_spelled m

-- the bytes of a message: version 1, the kind, the fields
abbrev pub message_spelled : Message → List ℕ
message_spelled m = 1 ∷ tagged_spelled m

-- decoding the fields of the message gives the message, and leaves no bytes
abbrev pub IsReadBack : Message → Type 0
IsReadBack m = body_at (kind_of m) (body_spelled m) ≡ Ok (m, [])

-- the numbers of an entry fit their widths
pub record IsEntry (e : Entry) : Type 0 where
  pub volume : e.volume < 2 ^ 32
  pub cut : e.cut < 2 ^ 64
  pub start : e.start < 2 ^ 64

abbrev pub AreEntries : Lineage → Type 0
AreEntries [] = Unit {0}
AreEntries (e ∷ older) = IsEntry e × AreEntries older

-- the membership epoch of each place fits its width
abbrev pub ArePlaces : List Place → Type 0
ArePlaces [] = Unit {0}
ArePlaces (place ∷ rest) = (place.epoch < 2 ^ 32) × ArePlaces rest

-- decoding the bytes of each record gives the record
abbrev pub AreReadBack : List Redo → Type 0
AreReadBack [] = Unit {0}
AreReadBack (r ∷ rest) = (decoded (spelled r) ≡ Ok r) × AreReadBack rest
