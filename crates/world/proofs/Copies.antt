-- The copies that a node keeps, after one more piece came.
use Rattle.std.proofs.Common.{◌≡◌, ℕ, suc, ◌<◌, ◌≤◌, true, false, ◌==◌, nat_lt, ◌⊎◌, List, [], ◌∷◌, ◌++◌, Option, Some, None, length, refl, sym, ap, ◌∙◌, subst, inl, inr, arith}
use Rattle.std.proofs.lemmas.Bool.{cases_Bool, and_from, eqb-true, eq-eqb, ne_eqb, le-leb, lt-ltb, ltb-true, or_cases, true≢false}
use Rattle.volume_model.specs.Common.{IsIn, Redo, spelling, numbers_before, Contents, Piece, KeptPiece, Pieces, Copy, most_pieces, pieces_of, piece_of, is_piece, has_piece, is_complete, first_piece, with_piece, is_bad_piece, contents_in, with_series, pieces_from, with_copy, copied_by, ComeInOrder, most_records}
use Rattle.volume_model.proofs.Basics.{IsIn-append, IsIn-map, every_below-all, map-has}
use Rattle.volume_model.proofs.Ordered.{before-trans}
use Rattle.volume_model.proofs.PieceLaws.{pieces_make_up}
use Rattle.world.proofs.Readable.{every_below_true}
use Rattle.std.proofs.lemmas.Grind.{common_steps}

-- ---- sets of records

-- nothing comes before itself
unordered : (xs : List ℕ) → numbers_before xs xs ≡ true → ⊥
unordered [] h = true≢false (sym h)
unordered (x ∷ xs) h =
    elim (or_cases (nat_lt x x) _ h) [
      | inl a ↦ (let l : x < x = ltb-true x x a in omega arith)
      | inr a ↦ unordered xs (rw (eq-eqb x x refl) at a)
    ]

-- a set that is included in another has no more records
pub included_shorter : (xs ys : List Redo) → ComeInOrder xs → ComeInOrder ys → ((r : Redo) → IsIn r xs → IsIn r ys) → length xs ≤ length ys
included_shorter [] ys o p within = omega arith
included_shorter (x ∷ xs) [] o p within = absurd (within x (inl refl))
included_shorter (x ∷ xs) (y ∷ ys) o p within =
    elim (within x (inl refl)) [
      | inl e ↦ (
          let rest : length xs ≤ length ys = included_shorter xs ys o.1 p.1 (λ r i. (
          elim (within r (inr i)) [
            | inl same ↦ absurd (unordered (spelling x) (subst (λ z. numbers_before (spelling x) (spelling z) ≡ true) (same ∙ sym e) (o.0 r i)))
            | inr j ↦ j
          ])) in
          omega arith)
      | inr first ↦ (
          let rest : length (x ∷ xs) ≤ length ys = included_shorter (x ∷ xs) ys o p.1 (λ r i. (
          let j : (r ≡ x) ⊎ IsIn r xs = i in
          elim j [
            | inl e ↦ subst (λ z. IsIn z ys) (sym e) first
            | inr k ↦ elim (within r (inr k)) [
              | inl same ↦ absurd (unordered (spelling x) (before-trans (spelling x) (spelling y) (spelling x) (subst (λ z. numbers_before (spelling x) (spelling z) ≡ true) same (o.0 r k)) (p.0 x first)))
              | inr j ↦ j
            ]
          ])) in
          omega arith)
    ]

-- ---- pieces

-- contents that a node may hold have no more pieces than there may be
pub few_pieces : (n : ℕ) → n ≤ most_records → pieces_of n ≤ most_pieces
few_pieces n few = (pieces_make_up.number n).fewest most_pieces (omega arith) (omega arith)

-- contents have a piece at least
pub some_piece : (n : ℕ) → 1 ≤ pieces_of n
some_piece n = (pieces_make_up.number n).one

-- each piece of contents that a node may hold is valid
pub valid_piece : (q : Contents) (k : ℕ) → length q.records ≤ most_records → k < pieces_of (length q.records)
    → is_piece (record { number = k; of = pieces_of (length q.records) }) (piece_of q k) ≡ true
valid_piece q k few below = grind (arith, common_steps, and_from, lt-ltb, le-leb, few_pieces, pieces_make_up)

module _ (pieces : Pieces) (piece : Piece) (c : Contents) where
  -- the new piece
  abbrev new : KeptPiece
  new = record { number = piece.number; contents = c }

  -- a kept piece was kept, or is the new one
  with_piece-from : (d : Contents) → IsIn d (contents_in (with_piece pieces piece c)) → (d ≡ c) ⊎ IsIn d (contents_in pieces)
  with_piece-from d i =
      elim (cases_Bool (has_piece pieces piece.number)) [
        | inl e ↦ inr (rw e at i)
        | inr e ↦ (
            let i' : IsIn d (contents_in (record pieces { kept = pieces.kept ++ new ∷ [] })) = rw e at i in
            let (kept, j, is) = IsIn-map (λ (kept : KeptPiece). kept.contents) (pieces.kept ++ new ∷ []) d i' in
            elim (IsIn-append pieces.kept (new ∷ []) kept j) [
              | inl k ↦ inr (subst (λ z. IsIn z (contents_in pieces)) (sym is) (map-has (λ (kept : KeptPiece). kept.contents) pieces.kept kept k))
              | inr k ↦ (let l : (kept ≡ new) ⊎ ⊥ = k in elim l [ inl p ↦ inl (is ∙ ap (λ (z : KeptPiece). z.contents) p) | inr z ↦ absurd z ])
            ])
      ]

-- a piece that is kept after one more came was kept, or is that one
with_series-from : (pieces : Pieces) (series : ℕ) (piece : Piece) (c d : Contents) → IsIn d (contents_in (with_series pieces series piece c)) → (d ≡ c) ⊎ IsIn d (contents_in pieces)
with_series-from pieces series piece c d i =
    elim (cases_Bool (is_complete pieces)) [
      | inl e ↦ inr (rw e at i)
      | inr e ↦ elim (cases_Bool (pieces.series == series)) [
        | inl f ↦ with_piece-from pieces piece c d (rw (e, f) at i)
        | inr f ↦ grind (arith, common_steps)
      ]
    ]

-- what is kept of a series up to a piece
pub record HasPieces (series of k : ℕ) (pieces : Pieces) : Type 0 where
  pub series_is : pieces.series ≡ series
  pub of_is : pieces.of ≡ of
  pub has : (j : ℕ) → j < k → has_piece pieces j ≡ true

-- one piece more of the series
pub next_kept : (pieces : Pieces) (series of k : ℕ) (c : Contents) → HasPieces series of k pieces → k < of
    → HasPieces series of (suc k) (with_series pieces series (record { number = k; of = of }) c)
next_kept pieces series of k c h below =
    let piece : Piece = record { number = k; of = of } in
    elim (cases_Bool (is_complete pieces)) [
      | inl e ↦ rw e (record {
        series_is = h.series_is;
        of_is = h.of_is;
        has = λ j l. every_below-all pieces.of (has_piece pieces) e j (let s : pieces.of ≡ of = h.of_is in omega arith);
      })
      | inr e ↦ grind (arith, common_steps)
    ]

-- the first piece of a series
pub first_kept : (series of : ℕ) (c : Contents) → HasPieces series of 1 (first_piece series (record { number = 0; of = of }) c)
first_kept series of c = grind (arith, common_steps)

-- all pieces
pub all_kept : (pieces : Pieces) (series of : ℕ) → HasPieces series of of pieces → is_complete pieces ≡ true
all_kept pieces series of h = every_below_true pieces.of (has_piece pieces) (λ j l. h.has j (let s : pieces.of ≡ of = h.of_is in omega arith))

-- ---- copies

module _ (sender series : ℕ) (piece : Piece) (c : Contents) where
  -- the copies of the others stay
  pub copy_other : (copies : List Copy) (other : ℕ) → (sender ≡ other → ⊥) → pieces_from (with_copy sender series piece c copies) other ≡ pieces_from copies other
  copy_other [] other n = rw (ne_eqb sender other n) refl
  copy_other (copy ∷ rest) other n =
      elim (cases_Bool (copy.sender == sender)) [
        | inl e ↦ (
            let s : copy.sender ≡ sender = eqb-true copy.sender sender e in
            rw (e, ne_eqb sender other n, ne_eqb copy.sender other (λ k. n (sym s ∙ k))) refl)
        | inr e ↦ elim (cases_Bool (copy.sender == other)) [
          | inl f ↦ rw (e, f) refl
          | inr f ↦ rw (e, f) (copy_other rest other n)
        ]
      ]

  -- the first piece of a sender
  pub copy_first : (copies : List Copy) → pieces_from copies sender ≡ None → pieces_from (with_copy sender series piece c copies) sender ≡ Some (first_piece series piece c)
  copy_first [] h = rw (eq-eqb sender sender refl) refl
  copy_first (copy ∷ rest) h =
      elim (cases_Bool (copy.sender == sender)) [
        | inl e ↦ (let k : ◌≡◌ {A = Option Pieces} (Some copy.pieces) None = rw e at h in cc)
        | inr e ↦ rw (e, e) (copy_first rest (rw e at h))
      ]

  -- a later one
  pub copy_next : (copies : List Copy) (pieces : Pieces) → pieces_from copies sender ≡ Some pieces → pieces_from (with_copy sender series piece c copies) sender ≡ Some (with_series pieces series piece c)
  copy_next [] pieces h = cc
  copy_next (copy ∷ rest) pieces h =
      elim (cases_Bool (copy.sender == sender)) [
        | inl e ↦ (
            let k : ◌≡◌ {A = Option Pieces} (Some copy.pieces) (Some pieces) = rw e at h in
            let same : copy.pieces ≡ pieces = cc in
            rw (e, eq-eqb sender sender refl) (ap (λ (p : Pieces). Some (with_series p series piece c)) same))
        | inr e ↦ rw (e, e) (copy_next rest pieces (rw e at h))
      ]

  -- each kept piece was kept, or is the one that came
  pub copy_from : (copies : List Copy) (copy : Copy) (d : Contents) → IsIn copy (with_copy sender series piece c copies) → IsIn d (contents_in copy.pieces)
      → (d ≡ c) ⊎ ((old : Copy) × IsIn old copies × IsIn d (contents_in old.pieces))
  copy_from [] copy d i j =
      let i' : (copy ≡ record { sender = sender; pieces = first_piece series piece c }) ⊎ ⊥ = i in
      elim i' [
        | inl e ↦ (let k : (d ≡ c) ⊎ ⊥ = subst (λ (z : Copy). IsIn d (contents_in z.pieces)) e j in elim k [ inl p ↦ inl p | inr z ↦ absurd z ])
        | inr z ↦ absurd z
      ]
  copy_from (first ∷ rest) copy d i j =
      elim (cases_Bool (first.sender == sender)) [
        | inl e ↦ (
            let i' : (copy ≡ record { sender = sender; pieces = with_series first.pieces series piece c }) ⊎ IsIn copy rest = rw e at i in
            elim i' [
              | inl same ↦ (
                  elim (with_series-from first.pieces series piece c d (subst (λ (z : Copy). IsIn d (contents_in z.pieces)) same j)) [
                    | inl p ↦ inl p
                    | inr k ↦ inr (first, inl refl, k)
                  ])
              | inr k ↦ inr (copy, inr k, j)
            ])
        | inr e ↦ (
            let i' : (copy ≡ first) ⊎ IsIn copy (with_copy sender series piece c rest) = rw e at i in
            elim i' [
              | inl same ↦ inr (copy, inl same, j)
              | inr k ↦ elim (copy_from rest copy d k j) [
                | inl p ↦ inl p
                | inr old ↦ (let (o, l, m) = old in inr (o, inr l, m))
              ]
            ])
      ]

-- who has a complete copy counts
pub complete_counts : (copies : List Copy) (x : ℕ) (pieces : Pieces) → pieces_from copies x ≡ Some pieces → is_complete pieces ≡ true → copied_by copies x ≡ true
complete_counts [] x pieces h complete = cc
complete_counts (copy ∷ rest) x pieces h complete =
    elim (cases_Bool (copy.sender == x)) [
      | inl e ↦ grind (arith, common_steps)
      | inr e ↦ rw e (complete_counts rest x pieces (rw e at h) complete)
    ]

-- a valid piece of the series that is kept, or of a sender of whom nothing is kept, isn't bad
pub fits_none : (series : ℕ) (piece : Piece) (c : Contents) → is_piece piece c ≡ true → is_bad_piece None series piece c ≡ false
fits_none series piece c valid = rw valid refl

pub fits_some : (pieces : Pieces) (series of k : ℕ) (c : Contents) → HasPieces series of k pieces → is_piece (record { number = k; of = of }) c ≡ true
    → is_bad_piece (Some pieces) series (record { number = k; of = of }) c ≡ false
fits_some pieces series of k c h valid = rw (valid, eq-eqb pieces.series series h.series_is, eq-eqb pieces.of of h.of_is) refl
