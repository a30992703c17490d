-- Worked pieces, computed
use Rattle.std.proofs.Common.{◌≡◌, ℕ, zero, suc, true, false, List, [], ◌∷◌, None, Result, Ok, Err, length, map, replicate, refl}
use Rattle.volume_model.specs.Common.{Redo, Lineage, birth, Contents, Piece, pieces_of, copied_by, brought, member_replaced, Label, Message, Install, Write, Ack, CopyAsk, CopyReport, NodeAnswer, installed, reaction, restarted}
use Rattle.volume_model.specs.Node.{Node}
use Rattle.volume_model.specs.declared.fault.Fault.{Fault}
use Rattle.volume_model.specs.declared.fault.Fault.TheVariants.{BadPiece, Full, NotInstalled, SeriesSpent, StaleVolume}

-- ---- how many pieces

of_none : pieces_of 0 ≡ 1
of_none = refl

of_one_more : pieces_of 257 ≡ 2
of_one_more = refl

of_most : pieces_of 1048576 ≡ 4096
of_most = refl

-- ---- a copy of 600 records

-- the record of a number, chained to the one before it
abbrev record_of : ℕ → Redo
record_of n = record { lsn = suc n; volume = 1; prev_volume = n; prev_group = n; prev_block = n; group = 0; block = 0; offset = 0; bytes = 97 ∷ []; point = true }

-- chained records of the numbers up to this one, from the first on
abbrev chained : ℕ → List Redo → List Redo
chained zero later = later
chained (suc n) later = chained n (record_of n ∷ later)

-- what a segment of these holds
abbrev holding : Lineage → List Redo → Contents
holding lineage records = record { lineage = lineage; records = records }

-- a whole node at membership epoch 1, which has made so many copies
abbrev whole_node : List Redo → ℕ → Node
whole_node records event_result = record { volume = 1; place = record { configuration = 0; epoch = 1 }; whole = true; contents = holding birth records; copies = []; install = None; copied = event_result }

-- of each piece of a copy its series, its number, of how many it is, and how many records it has
abbrev piece_reported : Message → List ℕ
piece_reported (CopyReport group epoch sender series piece contents) = series ∷ piece.number ∷ piece.of ∷ length contents.records ∷ []
piece_reported m = []

-- the result of an answer
abbrev told_of : NodeAnswer → Result (List (List ℕ)) Fault
told_of (Err fault) = Err fault
told_of (Ok step) = Ok (map piece_reported step.made)

-- the node after an answer
abbrev node_after : Node → NodeAnswer → Node
node_after node (Err fault) = node
node_after node (Ok step) = step.node

copy_reported : told_of (reaction member_replaced 0 0 (whole_node (chained 600 []) 0) (CopyAsk 0 1)) ≡ Ok ((1 ∷ 0 ∷ 3 ∷ 256 ∷ []) ∷ (1 ∷ 1 ∷ 3 ∷ 256 ∷ []) ∷ (1 ∷ 2 ∷ 3 ∷ 88 ∷ []) ∷ [])
copy_reported = refl

-- the next copy has the next number
copy_again : told_of (reaction member_replaced 0 0 (node_after (whole_node (chained 600 []) 0) (reaction member_replaced 0 0 (whole_node (chained 600 []) 0) (CopyAsk 0 1))) (CopyAsk 0 1)) ≡ Ok ((2 ∷ 0 ∷ 3 ∷ 256 ∷ []) ∷ (2 ∷ 1 ∷ 3 ∷ 256 ∷ []) ∷ (2 ∷ 2 ∷ 3 ∷ 88 ∷ []) ∷ [])
copy_again = refl

copies_spent : told_of (reaction member_replaced 0 0 (whole_node [] 4611686018427387904) (CopyAsk 0 1)) ≡ Err SeriesSpent
copies_spent = refl

last_copy : told_of (reaction member_replaced 0 0 (whole_node [] 4611686018427387903) (CopyAsk 0 1)) ≡ Ok ((4611686018427387904 ∷ 0 ∷ 1 ∷ 0 ∷ []) ∷ [])
last_copy = refl

-- ---- pieces that come

-- how many messages an answer makes, or its refusal
abbrev count_of : NodeAnswer → Result ℕ Fault
count_of (Err fault) = Err fault
count_of (Ok step) = Ok (length step.made)

-- what a member does with a message
abbrev answer_of : ℕ → Node → Message → NodeAnswer
answer_of member node m = reaction member_replaced 0 member node m

-- the result of messages that come one after the other
abbrev answers_of : ℕ → Node → List Message → List (Result ℕ Fault)
answers_of member node [] = []
answers_of member node (m ∷ rest) = count_of (answer_of member node m) ∷ answers_of member (node_after node (answer_of member node m)) rest

-- the node after them
abbrev after_all : ℕ → Node → List Message → Node
after_all member node [] = node
after_all member node (m ∷ rest) = after_all member (node_after node (answer_of member node m)) rest

-- the piece of a number, of so many
abbrev piece : ℕ → ℕ → Piece
piece number of = record { number = number; of = of }

-- a piece of the copy of a number that member 0 makes at epoch 2
abbrev copy : ℕ → ℕ → ℕ → Message
copy series number of = CopyReport 0 2 0 series (piece number of) (holding birth (record_of number ∷ []))

-- member 6, which isn't whole, at epoch 2
abbrev newcomer : Node
newcomer = record { volume = 0; place = record { configuration = 1; epoch = 2 }; whole = false; contents = holding [] []; copies = []; install = None; copied = 0 }

-- pieces of two copies, the first of which is never complete
abbrev mixed : List Message
mixed = copy 1 0 3 ∷ copy 2 0 3 ∷ copy 1 1 3 ∷ copy 2 1 3 ∷ copy 2 2 3 ∷ []

mixed_answers : answers_of 6 newcomer mixed ≡ Ok 0 ∷ Ok 0 ∷ Ok 0 ∷ Ok 0 ∷ Ok 0 ∷ []
mixed_answers = refl

mixed_counts : copied_by (after_all 6 newcomer mixed).copies 0 ≡ true
mixed_counts = refl

mixed_brought : map (λ c. map (λ r. r.lsn) c.records) (brought (after_all 6 newcomer mixed).copies) ≡ (1 ∷ []) ∷ (2 ∷ []) ∷ (3 ∷ []) ∷ []
mixed_brought = refl

-- before the last piece the sender doesn't count
not_yet : copied_by (after_all 6 newcomer (copy 1 0 3 ∷ copy 2 0 3 ∷ copy 1 1 3 ∷ copy 2 1 3 ∷ [])).copies 0 ≡ false
not_yet = refl

-- pieces of two copies don't make one
two_halves : copied_by (after_all 6 newcomer (copy 1 0 2 ∷ copy 2 1 2 ∷ [])).copies 0 ≡ false
two_halves = refl

-- in whatever order, and repeated
repeated : copied_by (after_all 6 newcomer (copy 1 1 3 ∷ copy 1 1 3 ∷ copy 1 2 3 ∷ copy 1 0 3 ∷ [])).copies 0 ≡ true
repeated = refl

-- once a copy is complete a later one changes nothing
complete_stays : after_all 6 newcomer (copy 1 0 1 ∷ copy 2 0 2 ∷ []) ≡ after_all 6 newcomer (copy 1 0 1 ∷ [])
complete_stays = refl

-- another number of pieces than those that are kept of the series
other_number : answers_of 6 newcomer (copy 1 0 3 ∷ copy 1 1 4 ∷ copy 2 1 4 ∷ copy 3 0 1 ∷ copy 3 1 2 ∷ []) ≡ Ok 0 ∷ Err BadPiece ∷ Ok 0 ∷ Ok 0 ∷ Err BadPiece ∷ []
other_number = refl

-- none, its own number, too many pieces, as many as there may be
bad_copies : answers_of 6 newcomer (copy 1 0 0 ∷ copy 1 3 3 ∷ copy 1 0 4097 ∷ copy 1 4095 4096 ∷ []) ≡ Err BadPiece ∷ Err BadPiece ∷ Err BadPiece ∷ Ok 0 ∷ []
bad_copies = refl

-- a restart forgets what was kept
restart_forgets : copied_by (after_all 6 (restarted (after_all 6 newcomer (copy 1 0 2 ∷ []))) (copy 1 1 2 ∷ [])).copies 0 ≡ false
restart_forgets = refl

-- ---- an install

-- the label of a volume epoch, at membership epoch 1
abbrev under : ℕ → Label
under volume = record { volume = volume; member = 1 }

-- the lineage of a recovery that cut at 3
abbrev recovered : ℕ → Lineage
recovered volume = record { volume = volume; cut = 3; start = 13 } ∷ birth

-- a piece of what the client of a volume epoch installs
abbrev install : ℕ → ℕ → ℕ → Message
install volume number of = Install 0 (under volume) (piece number of) (holding (recovered volume) (record_of number ∷ []))

-- member 0, with no records
abbrev empty_node : Node
empty_node = whole_node [] 0

-- the first and the last piece
abbrev two_of_three : List Message
two_of_three = install 2 0 3 ∷ install 2 2 3 ∷ []

-- no answer before all are there, and no write of the volume epoch
install_answers : answers_of 0 empty_node (install 2 0 3 ∷ install 2 2 3 ∷ Write 0 (under 2) (record_of 13) ∷ install 2 1 3 ∷ Write 0 (under 2) (record_of 13) ∷ []) ≡ Ok 0 ∷ Ok 0 ∷ Err NotInstalled ∷ Ok 1 ∷ Ok 1 ∷ []
unfolding installed
install_answers = refl

-- and nothing is replaced
not_replaced : (after_all 0 empty_node two_of_three).contents ≡ empty_node.contents
unfolding installed
not_replaced = refl

-- the messages that an answer makes
abbrev made_by : NodeAnswer → List Message
made_by (Err fault) = []
made_by (Ok step) = step.made

install_ack : made_by (answer_of 0 (after_all 0 empty_node two_of_three) (install 2 1 3)) ≡ Ack 0 (under 2) 0 3 ∷ []
unfolding installed
install_ack = refl

-- a restart forgets the pieces
restarted_install : answers_of 0 (restarted (after_all 0 empty_node two_of_three)) (install 2 1 3 ∷ install 2 0 4 ∷ []) ≡ Ok 0 ∷ Err BadPiece ∷ []
unfolding installed
restarted_install = refl

-- the pieces of a later volume epoch take the place of the kept ones, and those of the earlier one are refused
two_installs : answers_of 0 empty_node (install 2 0 2 ∷ install 3 0 2 ∷ install 2 1 2 ∷ install 3 1 2 ∷ install 3 0 2 ∷ []) ≡ Ok 0 ∷ Ok 0 ∷ Err StaleVolume ∷ Ok 1 ∷ Ok 1 ∷ []
unfolding installed
two_installs = refl

-- none, its own number, more pieces than there may be, as many as there may be
bad_installs : answers_of 0 empty_node (install 2 0 0 ∷ install 2 3 3 ∷ install 2 0 4097 ∷ install 2 4095 4096 ∷ []) ≡ Err BadPiece ∷ Err BadPiece ∷ Err Full ∷ Ok 0 ∷ []
unfolding installed
bad_installs = refl

-- more records than a piece may have, as many, and none
abbrev of_size : ℕ → Message
of_size n = Install 0 (under 2) (piece 0 2) (holding (recovered 2) (replicate n (record_of 0)))

sizes : map (λ n. count_of (answer_of 0 empty_node (of_size n))) (257 ∷ 256 ∷ 0 ∷ []) ≡ Err BadPiece ∷ Ok 0 ∷ Ok 0 ∷ []
unfolding installed
sizes = refl
