-- The fields of each kind are read back as what they were written from.
use Rattle.std.proofs.Common.{◌≡◌, ℕ, suc, ◌+◌, ◌^◌, ◌<◌, ◌≤◌, false, ◌==◌, List, [], ◌∷◌, ◌++◌, length, map, get_or, take, Ok, refl, sym, ap, ap₂, subst, ◌∙◌, append_assoc, arith, ne_eqb}
use Rattle.std.specs.Int.{w16, w32, w64, to_be_bytes}
use Rattle.std.proofs.lemmas.List.{append-nil, map_more}
use Rattle.volume_model.specs.Common.{◌>>=◌, Redo, Contents, Piece, Label, Place, Message, View, StepTo, Fence, Report, Install, Write, Gossip, Ack, CopyAsk, CopyReport, PageAsk, Page}
use Rattle.redo_record.specs.Common.{spelled, decoded}
use Rattle.wire.specs.declared.label.Place.{Place as WirePlace}
use Rattle.wire.specs.Common.{place_of}
use Rattle.message_bytes.specs.Contents.{Read, redo_at, contents_at}
use Rattle.message_bytes.specs.Reading.{label_at, labelled_at, place_at, places_at, volume_at, view_at, step_at, fence_at, report_at, install_at, write_at, gossip_at, ack_at, copy_ask_at, copy_report_at, page_ask_at, page_at, body_at, version_at, message_in}
use Rattle.message_bytes.specs.Spelling.{labelled_spelled, place_spelled, places_spelled, contents_spelled, message_spelled, ArePlaces, IsReadBack}
use Rattle.message_bytes.proofs.Fields.{wide16, wide32, wide64, number_again, number_last, image_last}
use Rattle.message_bytes.proofs.Again.{redo_again}
use Rattle.message_bytes.proofs.Fielded.{places_spelled-append}
use Rattle.std.proofs.lemmas.Grind.{common_steps}

-- contents are read back, whatever follows them
abbrev pub AreBack : Contents → Type 0
AreBack c = (rest : List ℕ) → contents_at (contents_spelled c ++ rest) ≡ Ok (c, rest)

-- a label's numbers fit their widths
pub record IsLabel (label : Label) : Type 0 where
  pub volume : label.volume < 2 ^ 32
  pub member : label.member < 2 ^ 32

pub labelled_again : (group : ℕ) (label : Label) (rest : List ℕ) → IsLabel label → labelled_at (labelled_spelled group label ++ rest) ≡ Ok ((group, label), rest)
unfolding labelled_at label_at
labelled_again group label rest fits = grind (arith, common_steps)

labelled_last : (group : ℕ) (label : Label) → IsLabel label → labelled_at (labelled_spelled group label) ≡ Ok ((group, label), [])
labelled_last group label fits = ap labelled_at (sym (append-nil (labelled_spelled group label))) ∙ labelled_again group label [] fits

pub place_again : (place : Place) (rest : List ℕ) → place.epoch < 2 ^ 32 → place_at (place_spelled place ++ rest) ≡ Ok (place, rest)
unfolding place_at
place_again place rest fits = rw (number_again w32 (2 ^ 32) wide32 place.epoch rest fits) refl

place_last : (place : Place) → place.epoch < 2 ^ 32 → place_at (place_spelled place) ≡ Ok (place, [])
place_last place fits = ap place_at (sym (append-nil (place_spelled place))) ∙ place_again place [] fits

places_again : (xs kept : List Place) (m : ℕ) (rest : List ℕ) → ArePlaces xs → places_at (length xs + m) kept (places_spelled xs ++ rest) ≡ places_at m (kept ++ xs) rest
unfolding places_at
places_again [] kept m rest fits = ap₂ (λ (k : ℕ) (t : List Place). places_at k t rest) (omega arith) (sym (append-nil kept))
places_again (place ∷ xs) kept m rest fits =
    let k : length (place ∷ xs) + m ≡ suc (length xs + m) = omega arith in
    grind (arith, common_steps, append_assoc, place_again, (places_again xs (kept ++ place ∷ []) m rest fits.1))

places_last : (xs : List Place) → ArePlaces xs → places_at (length xs) [] (places_spelled xs) ≡ Ok (xs, [])
unfolding places_at
places_last xs fits = ap₂ (λ (k : ℕ) (t : List ℕ). places_at k [] t) (omega arith) (sym (append-nil (places_spelled xs))) ∙ places_again xs [] 0 [] fits

redo_last : (r : Redo) → decoded (spelled r) ≡ Ok r → redo_at (spelled r) ≡ Ok (r, [])
redo_last r reads = ap redo_at (sym (append-nil (spelled r))) ∙ redo_again r [] reads

contents_last : (c : Contents) → AreBack c → contents_at (contents_spelled c) ≡ Ok (c, [])
contents_last c back = ap contents_at (sym (append-nil (contents_spelled c))) ∙ back []

some : (n : ℕ) → 1 ≤ n → (n == 0) ≡ false
some n positive = ne_eqb n 0 (λ (e : n ≡ 0). omega (arith, e, positive))

pub view_back : (volume : ℕ) (places : List Place) → 1 ≤ volume → volume < 2 ^ 32 → length places < 2 ^ 32 → ArePlaces places → IsReadBack (View volume places)
unfolding body_at view_at volume_at
view_back volume places assigned fits few are = grind (arith, common_steps, number_again, wide32, some, places_last)

pub step_back : (group : ℕ) (place : Place) → place.epoch < 2 ^ 32 → IsReadBack (StepTo group place)
unfolding body_at step_at
step_back group place fits = rw (place_last place fits) refl

pub fence_back : (group : ℕ) (label : Label) → IsLabel label → IsReadBack (Fence group label)
unfolding body_at fence_at
fence_back group label fits = rw (labelled_last group label fits) refl

pub report_back : (group : ℕ) (label : Label) (from : ℕ) (c : Contents) → IsLabel label → AreBack c → IsReadBack (Report group label from c)
unfolding body_at report_at
report_back group label from c fits back = rw (labelled_again group label (from ∷ contents_spelled c) fits, contents_last c back) refl

pub install_back : (group : ℕ) (label : Label) (piece : Piece) (c : Contents) → IsLabel label → piece.number < 2 ^ 16 → piece.of < 2 ^ 16 → AreBack c → IsReadBack (Install group label piece c)
unfolding body_at install_at
install_back group label piece c fits number of back =
    let n = to_be_bytes w16 piece.number in
    let o = to_be_bytes w16 piece.of in
    let t = contents_spelled c in
    ap (λ (s : List ℕ). body_at 5 (labelled_spelled group label ++ s)) (append_assoc n o t)
    ∙ rw (labelled_again group label (n ++ (o ++ t)) fits, number_again w16 (2 ^ 16) wide16 piece.number (o ++ t) number, number_again w16 (2 ^ 16) wide16 piece.of t of, contents_last c back) refl

pub write_back : (group : ℕ) (label : Label) (r : Redo) → IsLabel label → decoded (spelled r) ≡ Ok r → IsReadBack (Write group label r)
unfolding body_at write_at
write_back group label r fits reads = rw (labelled_again group label (spelled r) fits, redo_last r reads) refl

pub gossip_back : (group : ℕ) (label : Label) (r : Redo) → IsLabel label → decoded (spelled r) ≡ Ok r → IsReadBack (Gossip group label r)
unfolding body_at gossip_at
gossip_back group label r fits reads = rw (labelled_again group label (spelled r) fits, redo_last r reads) refl

pub ack_back : (group : ℕ) (label : Label) (from scl : ℕ) → IsLabel label → scl < 2 ^ 64 → IsReadBack (Ack group label from scl)
unfolding body_at ack_at
ack_back group label from scl fits few = grind (arith, common_steps, labelled_again, Ok, number_last, wide64)

pub copy_ask_back : (group epoch : ℕ) → epoch < 2 ^ 32 → IsReadBack (CopyAsk group epoch)
unfolding body_at copy_ask_at
copy_ask_back group epoch fits = ap (λ (r : Read ℕ). r >>= λ e. Ok (CopyAsk group e.0, e.1)) (number_last w32 (2 ^ 32) wide32 epoch fits)

pub copy_report_back : (group epoch from series : ℕ) (piece : Piece) (c : Contents) → epoch < 2 ^ 32 → series < 2 ^ 64 → piece.number < 2 ^ 16 → piece.of < 2 ^ 16 → AreBack c → IsReadBack (CopyReport group epoch from series piece c)
unfolding body_at copy_report_at
copy_report_back group epoch from series piece c fits few number of back = grind (arith, common_steps, (contents_last c back))

pub page_ask_back : (group : ℕ) (label : Label) (block point : ℕ) → IsLabel label → block < 2 ^ 32 → point < 2 ^ 64 → IsReadBack (PageAsk group label block point)
unfolding body_at page_ask_at
page_ask_back group label block point fits number few = grind (arith, common_steps, labelled_again, Ok, number_again, wide32, number_last, wide64)

pub page_back : (group : ℕ) (label : Label) (from block point : ℕ) (image : List ℕ) → IsLabel label → block < 2 ^ 32 → point < 2 ^ 64 → length image ≡ 512 → IsReadBack (Page group label from block point image)
unfolding body_at page_at
page_back group label from block point image fits number few len =
    let p = to_be_bytes w64 point in
    rw (
      labelled_again group label (from ∷ (to_be_bytes w32 block ++ (p ++ image))) fits,
      number_again w32 (2 ^ 32) wide32 block (p ++ image) number,
      number_again w64 (2 ^ 64) wide64 point image few,
      image_last image len,
    ) refl

-- one place more
pub places-more : (places : List WirePlace) (i : ℕ) (d : WirePlace) (items more old : List ℕ) → i < length places → more ≡ items ++ place_spelled (place_of (get_or places i d)) → (get_or places i d).epoch < 2 ^ 32
    → (items ≡ old ++ places_spelled (map place_of (take i places))) × ArePlaces (map place_of (take i places))
    → (more ≡ old ++ places_spelled (map place_of (take (i + 1) places))) × ArePlaces (map place_of (take (i + 1) places))
places-more places i d items more old within grown fits (so_far, are) =
    let q = place_of (get_or places i d) in
    let front = map place_of (take i places) in
    let step : front ++ q ∷ [] ≡ map place_of (take (i + 1) places) = sym (map_more place_of places i d within) in
    let text : more ≡ old ++ places_spelled (front ++ q ∷ []) = grind (arith, common_steps, append_assoc, append-nil, places_spelled-append) in
    (text ∙ ap (λ (rs : List Place). old ++ places_spelled rs) step, subst ArePlaces step (pushed front are))
  where
    pushed : (xs : List Place) → ArePlaces xs → ArePlaces (xs ++ place_of (get_or places i d) ∷ [])
    pushed [] b = (fits, tt)
    pushed (x ∷ xs) b = (b.0, pushed xs b.1)

pub message_again : (m : Message) → IsReadBack m → message_in (message_spelled m) ≡ Ok m
unfolding message_in version_at
message_again m back = rw back refl
