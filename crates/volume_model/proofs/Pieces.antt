-- Contents that are cut into pieces, and pieces that are kept until all are there
use Rattle.std.proofs.Common.{◌≡◌, ℕ, zero, suc, ◌+◌, ◌-◌, ◌*◌, ◌<◌, ◌≤◌, true, false, eqb, ◌⊎◌, List, [], ◌∷◌, Option, Some, None, length, take, drop, drop-drop, length-drop, refl, sym, ap, ◌∙◌, subst, inl, inr, arith}
use Rattle.std.proofs.lemmas.Bool.{cases_Bool, and_parts, eqb-true}
use Rattle.volume_model.specs.Common.{IsIn, Redo, with_record, with_records, Contents, Piece, KeptPiece, Pieces, Copy, most_in_piece, pieces_of, piece_records, piece_of, piece_in, in_pieces, has_piece, is_complete, first_piece, with_piece, is_of_other, contents_in, united, with_install, with_series, pieces_from, with_copy, copied_by, brought_by, brought, IsPieceOf}
use Rattle.volume_model.proofs.Basics.{any_passes, IsIn-append, every_below-all, each_below-from, IsIn-flat_map, flat_map-has, IsIn-map, map-has, IsIn-take, IsIn-drop, take-or-drop}
use Rattle.volume_model.proofs.Records.{with_record-has, with_record-keeps, with_record-from}
use Rattle.volume_model.proofs.Ordered.{IsOrdered, with_record-ordered}
use Rattle.std.proofs.lemmas.Grind.{common_steps}

-- ---- how contents are cut

piece_within : (records : List Redo) (number : ℕ) (r : Redo) → IsIn r (piece_records records number) → IsIn r records
piece_within records number r i = IsIn-drop (number * most_in_piece) records r (IsIn-take most_in_piece (drop (number * most_in_piece) records) r i)

-- so many pieces have each record
covered : (pieces : ℕ) (records : List Redo) → length records ≤ pieces * most_in_piece → (r : Redo) → IsIn r records → (k : ℕ) × (k < pieces) × IsIn r (piece_records records k)
covered zero [] few r i = absurd i
covered zero (s ∷ rest) few r i = absurd (omega arith)
covered (suc pieces) records few r i =
    elim (take-or-drop most_in_piece records r i) [
      | inl j ↦ (0, omega arith, j)
      | inr j ↦ (
          let short : length (drop most_in_piece records) ≡ length records - most_in_piece = length-drop most_in_piece records in
          let (k, below, there) = covered pieces (drop most_in_piece records) (omega arith) r j in
          let next : most_in_piece + k * most_in_piece ≡ suc k * most_in_piece = omega arith in
          let same : drop (k * most_in_piece) (drop most_in_piece records) ≡ drop (suc k * most_in_piece) records = drop-drop (k * most_in_piece) most_in_piece records ∙ ap (λ n. drop n records) next in
          (suc k, omega arith, subst (λ z. IsIn r (take most_in_piece z)) same there))
    ]

pub enough_pieces : (n : ℕ) → n ≤ pieces_of n * most_in_piece
enough_pieces n = grind (arith, common_steps)

-- what is said of the pieces of contents is said of each of them
pub in_pieces-from : {A : Type 0} (q : Contents) (say : Piece → Contents → A) (a : A) → IsIn a (in_pieces q say) → (piece : Piece) × (c : Contents) × IsPieceOf q piece c × (a ≡ say piece c)
in_pieces-from q say a i =
    let of : ℕ = pieces_of (length q.records) in
    let (k, below, e) = each_below-from of (λ number. true) (λ number. say (record { number = number; of = of }) (piece_of q number)) a i in
    (record { number = k; of = of }, piece_of q k, record { of = refl; is = refl }, e)

-- a piece has records of the contents
pub part_of_piece : (q : Contents) (piece : Piece) (c : Contents) → IsPieceOf q piece c → (r : Redo) → IsIn r c.records → IsIn r q.records
part_of_piece q piece c is r i = piece_within q.records piece.number r (subst (λ z. IsIn r z.records) is.is i)

-- ---- which pieces are kept

-- each piece that is kept is one of these, and there is one at least
pub record ArePieces (Is : ℕ → Piece → Contents → Type 0) (pieces : Pieces) : Type 0 where
  pub some : 0 < pieces.of
  pub each : (kept : KeptPiece) → IsIn kept pieces.kept → Is pieces.series (piece_in pieces kept) kept.contents

pub ArePieces-more : (Is Is' : ℕ → Piece → Contents → Type 0) → ((series : ℕ) (piece : Piece) (c : Contents) → Is series piece c → Is' series piece c) → (pieces : Pieces) → ArePieces Is pieces → ArePieces Is' pieces
ArePieces-more Is Is' more pieces are = record { some = are.some; each = λ kept i. more pieces.series (piece_in pieces kept) kept.contents (are.each kept i) }

module _ (Is : ℕ → Piece → Contents → Type 0) where
  first_piece-are : (series : ℕ) (piece : Piece) (c : Contents) → 0 < piece.of → Is series piece c → ArePieces Is (first_piece series piece c)
  first_piece-are series piece c some is = grind (arith, common_steps)

  with_piece-are : (pieces : Pieces) (piece : Piece) (c : Contents) → ArePieces Is pieces → pieces.of ≡ piece.of → Is pieces.series piece c → ArePieces Is (with_piece pieces piece c)
  with_piece-are pieces piece c are same is =
      let new : KeptPiece = record { number = piece.number; contents = c } in
      let is' : Is pieces.series (record { number = piece.number; of = pieces.of }) c = subst (λ n. Is pieces.series (record { number = piece.number; of = n }) c) (sym same) is in
      elim (cases_Bool (has_piece pieces piece.number)) [
        | inl e ↦ rw e are
        | inr e ↦ rw e (record {
          some = are.some;
          each = λ kept i. elim (IsIn-append pieces.kept (new ∷ []) kept i) [
            | inl j ↦ are.each kept j
            | inr j ↦ (let k : (kept ≡ new) ⊎ ⊥ = j in elim k [ inl p ↦ subst (λ z. Is pieces.series (record { number = z.number; of = pieces.of }) z.contents) (sym p) is' | inr z ↦ absurd z ])
          ];
        })
      ]

  -- of the series that is kept: another number of pieces was refused
  same_number : (pieces : Pieces) (series : ℕ) (piece : Piece) → is_of_other (Some pieces) series piece ≡ false → eqb pieces.series series ≡ true → pieces.of ≡ piece.of
  same_number pieces series piece other e = grind (arith, common_steps)

  joined-are : (pieces : Pieces) (series : ℕ) (piece : Piece) (c : Contents) → ArePieces Is pieces → is_of_other (Some pieces) series piece ≡ false → Is series piece c → eqb pieces.series series ≡ true → ArePieces Is (with_piece pieces piece c)
  joined-are pieces series piece c are other is e = grind (arith, common_steps, with_piece-are, same_number, eqb-true)

  pub with_install-are : (old : Option Pieces) (volume : ℕ) (piece : Piece) (c : Contents) → ((pieces : Pieces) → old ≡ Some pieces → ArePieces Is pieces) → is_of_other old volume piece ≡ false → 0 < piece.of → Is volume piece c → ArePieces Is (with_install old volume piece c)
  with_install-are None volume piece c are other some is = first_piece-are volume piece c some is
  with_install-are (Some pieces) volume piece c are other some is =
      elim (cases_Bool (eqb pieces.series volume)) [
        | inl e ↦ rw e (joined-are pieces volume piece c (are pieces refl) other is e)
        | inr e ↦ rw e (first_piece-are volume piece c some is)
      ]

  pub with_series-are : (pieces : Pieces) (series : ℕ) (piece : Piece) (c : Contents) → ArePieces Is pieces → is_of_other (Some pieces) series piece ≡ false → 0 < piece.of → Is series piece c → ArePieces Is (with_series pieces series piece c)
  with_series-are pieces series piece c are other some is = grind (arith, common_steps, cases_Bool, joined-are, first_piece-are)

-- what is kept of an install is of the volume epoch of the piece that came last
pub with_install-series : (old : Option Pieces) (volume : ℕ) (piece : Piece) (c : Contents) → (with_install old volume piece c).series ≡ volume
with_install-series None volume piece c = refl
with_install-series (Some pieces) volume piece c = grind (arith, common_steps)

module _ (Is : ℕ → ℕ → Piece → Contents → Type 0) (sender series : ℕ) (piece : Piece) (c : Contents) where
  pub with_copy-are : (copies : List Copy) → ((copy : Copy) → IsIn copy copies → ArePieces (Is copy.sender) copy.pieces) → is_of_other (pieces_from copies sender) series piece ≡ false → 0 < piece.of → Is sender series piece c → (copy : Copy) → IsIn copy (with_copy sender series piece c copies) → ArePieces (Is copy.sender) copy.pieces
  with_copy-are [] are other some is copy i = grind (arith, common_steps)
  with_copy-are (old ∷ rest) are other some is copy i =
      elim (cases_Bool (eqb old.sender sender)) [
        | inl e ↦ (
            let new : Copy = record { sender = sender; pieces = with_series old.pieces series piece c } in
            let j : (copy ≡ new) ⊎ IsIn copy rest = rw e at i in
            let other' : is_of_other (Some old.pieces) series piece ≡ false = rw e at other in
            let before : ArePieces (Is sender) old.pieces = subst (λ s. ArePieces (Is s) old.pieces) (eqb-true old.sender sender e) (are old (inl refl)) in
            grind (arith, common_steps, (with_series-are (Is sender) old.pieces series piece c before other' some is)))
        | inr e ↦ (
            let j : (copy ≡ old) ⊎ IsIn copy (with_copy sender series piece c rest) = rw e at i in
            let other' : is_of_other (pieces_from rest sender) series piece ≡ false = rw e at other in
            elim j [
              | inl p ↦ are copy (inl p)
              | inr k ↦ with_copy-are rest (λ z l. are z (inr l)) other' some is copy k
            ])
      ]

-- ---- what kept pieces amount to

-- all kept pieces are pieces of the contents
abbrev pub AreOf : Contents → Pieces → Type 0
AreOf q pieces = ArePieces (λ series piece c. IsPieceOf q piece c) pieces

-- a kept piece has the lineage of the contents, and records of theirs
pub part_of_contents : (q : Contents) (pieces : Pieces) → AreOf q pieces → (c : Contents) → IsIn c (contents_in pieces) → (c.lineage ≡ q.lineage) × ((r : Redo) → IsIn r c.records → IsIn r q.records)
part_of_contents q pieces are c i =
    let (kept, j, e) = IsIn-map (λ kept. kept.contents) pieces.kept c i in
    let is : c ≡ piece_of q kept.number = e ∙ (are.each kept j).is in
    (ap (λ z. z.lineage) is, λ r k. piece_within q.records kept.number r (subst (λ z. IsIn r z.records) is k))

-- the piece of each number is there once all are kept
complete_has : (pieces : Pieces) → is_complete pieces ≡ true → (k : ℕ) → k < pieces.of → (kept : KeptPiece) × IsIn kept pieces.kept × (kept.number ≡ k)
complete_has pieces complete k below = grind (arith, common_steps, any_passes, every_below-all, eqb-true, (every_below-all pieces.of (has_piece pieces) complete k below))

-- one piece at least is kept of a complete series
pub complete_some : (Is : ℕ → Piece → Contents → Type 0) (pieces : Pieces) → ArePieces Is pieces → is_complete pieces ≡ true → (kept : KeptPiece) × IsIn kept pieces.kept
complete_some Is pieces are complete = let (kept, i, e) = complete_has pieces complete 0 are.some in (kept, i)

-- once all are kept each record of the contents is in one of them
pub all_contents : (q : Contents) (pieces : Pieces) → AreOf q pieces → is_complete pieces ≡ true → (r : Redo) → IsIn r q.records → (c : Contents) × IsIn c (contents_in pieces) × IsIn r c.records
all_contents q pieces are complete r i =
    let (first, j, e) = complete_has pieces complete 0 are.some in
    let many : pieces.of ≡ pieces_of (length q.records) = (are.each first j).of in
    let (k, below, there) = covered (pieces_of (length q.records)) q.records (enough_pieces (length q.records)) r i in
    let (kept, at, number) = complete_has pieces complete k (subst (λ n. k < n) (sym many) below) in
    let is : kept.contents ≡ piece_of q kept.number = (are.each kept at).is in
    let there' : IsIn r (piece_of q kept.number).records = subst (λ n. IsIn r (piece_of q n).records) (sym number) there in
    (kept.contents, map-has (λ kept. kept.contents) pieces.kept kept at, subst (λ z. IsIn r z.records) (sym is) there')

with_records-from : (records kept : List Redo) (r : Redo) → IsIn r (with_records records kept) → IsIn r records ⊎ IsIn r kept
with_records-from [] kept r i = inr i
with_records-from (s ∷ rest) kept r i =
    elim (with_record-from s (with_records rest kept) r i) [
      | inl e ↦ inl (inl e)
      | inr j ↦ elim (with_records-from rest kept r j) [ inl k ↦ inl (inr k) | inr k ↦ inr k ]
    ]

with_records-has : (records kept : List Redo) (r : Redo) → IsIn r records → IsIn r (with_records records kept)
with_records-has [] kept r i = absurd i
with_records-has (s ∷ rest) kept r (inl e) = subst (λ z. IsIn z (with_record s (with_records rest kept))) (sym e) (with_record-has s (with_records rest kept))
with_records-has (s ∷ rest) kept r (inr i) = with_record-keeps s (with_records rest kept) r (with_records-has rest kept r i)

with_records-keeps : (records kept : List Redo) (r : Redo) → IsIn r kept → IsIn r (with_records records kept)
with_records-keeps [] kept r i = i
with_records-keeps (s ∷ rest) kept r i = with_record-keeps s (with_records rest kept) r (with_records-keeps rest kept r i)

with_records-ordered : (records kept : List Redo) → IsOrdered kept → IsOrdered (with_records records kept)
with_records-ordered [] kept o = o
with_records-ordered (s ∷ rest) kept o = with_record-ordered s (with_records rest kept) (with_records-ordered rest kept o)

pub united-from : (parts : List Contents) (r : Redo) → IsIn r (united parts) → (c : Contents) × IsIn c parts × IsIn r c.records
united-from [] r i = absurd i
united-from (part ∷ rest) r i =
    elim (with_records-from part.records (united rest) r i) [
      | inl j ↦ (part, inl refl, j)
      | inr j ↦ (let (c, k, l) = united-from rest r j in (c, inr k, l))
    ]

pub united-has : (parts : List Contents) (c : Contents) (r : Redo) → IsIn c parts → IsIn r c.records → IsIn r (united parts)
united-has [] c r i j = absurd i
united-has (part ∷ rest) c r (inl e) j = with_records-has part.records (united rest) r (subst (λ z. IsIn r z.records) e j)
united-has (part ∷ rest) c r (inr i) j = with_records-keeps part.records (united rest) r (united-has rest c r i j)

pub united-ordered : (parts : List Contents) → IsOrdered (united parts)
united-ordered [] = tt
united-ordered (part ∷ rest) = with_records-ordered part.records (united rest) (united-ordered rest)

-- what complete copies brought
pub brought-from : (copies : List Copy) (c : Contents) → IsIn c (brought copies) → (copy : Copy) × IsIn copy copies × (is_complete copy.pieces ≡ true) × IsIn c (contents_in copy.pieces)
brought-from copies c i = grind (arith, common_steps, IsIn-flat_map, cases_Bool)

pub brought-has : (copies : List Copy) (copy : Copy) (c : Contents) → IsIn copy copies → is_complete copy.pieces ≡ true → IsIn c (contents_in copy.pieces) → IsIn c (brought copies)
brought-has copies copy c i complete j = flat_map-has brought_by copies copy c i (rw complete j)

-- a member whose copy is complete has one
pub copied_by-has : (copies : List Copy) (x : ℕ) → copied_by copies x ≡ true → (copy : Copy) × IsIn copy copies × (copy.sender ≡ x) × (is_complete copy.pieces ≡ true)
copied_by-has copies x h = grind (arith, common_steps, any_passes, and_parts, eqb-true)
