-- Which pieces are kept, and that each is kept once.
use Rattle.std.proofs.Common.{inl, inr, ◌≡◌, ◌+◌, ℕ, zero, suc, ◌<◌, ◌≤◌, Bool, true, false, not, ◌&&◌, ◌||◌, ◌==◌, nat_lt, List, [], ◌∷◌, ◌++◌, length, get_or, set, replicate, vec_len, slice_set, refl, sym, ap, ◌∙◌, subst, arith}
use Rattle.std.proofs.lemmas.Bool.{cases_eq, cases_lt, and_parts, lt-ltb, ltb-true, eq-eqb, ne_eqb}
use Rattle.std.proofs.lemmas.List.{same_lists, get_or_append_left, get_or_push, get_or-replicate, length-set, length-append, length-replicate, length-map, map-append}
use Rattle.volume_model.specs.Common.{each_below, Piece, KeptPiece, Pieces, has_piece, is_complete, with_piece, AreOnce}
use Rattle.volume_model.proofs.PieceLaws.{pieces_make_up}
use Rattle.hydration.specs.declared.kept.Kept.{Kept}
use Rattle.hydration.specs.declared.pieces.Pieces.{Pieces as Held}
use Rattle.hydration.specs.Kept.{kept_of, all_kept, is_kept, are_once, marks_of}
use Rattle.hydration.specs.Pieces.{seen_pieces}
use Rattle.hydration.specs.Changes.{CanAdd}
use Rattle.std.proofs.lemmas.Grind.{common_steps}

length-each : (n : ℕ) (f : ℕ → Bool) → length (each_below n (λ number. true) f) ≡ n
length-each zero f = refl
length-each (suc n) f = simp length-append (let e : length (each_below n (λ number. true) f) ≡ n = length-each n f in omega arith)

get-each : (n : ℕ) (f : ℕ → Bool) (i : ℕ) (d : Bool) → i < n → get_or (each_below n (λ number. true) f) i d ≡ f i
get-each zero f i d h = absurd (omega arith)
get-each (suc n) f i d h =
    let e : length (each_below n (λ number. true) f) ≡ n = length-each n f in
    elim (cases_lt i n) [
      | inl l ↦ get_or_append_left (each_below n (λ number. true) f) (f n ∷ []) d i (omega arith) ∙ get-each n f i d l
      | inr l ↦ (let same : i ≡ n = omega arith in get_or_push (each_below n (λ number. true) f) (f n) d i (e ∙ sym same) ∙ ap f (sym same))
    ]

-- the mark of a number
pub marks-read : (of : ℕ) (kept : List KeptPiece) (marks : List Bool) (number : ℕ) (d : Bool) → marks ≡ marks_of of kept → number < of → get_or marks number d ≡ is_kept kept number
marks-read of kept marks number d is h = ap (λ ms. get_or ms number d) is ∙ get-each of (is_kept kept) number d h

pub length-marks : (of : ℕ) (kept : List KeptPiece) (marks : List Bool) → marks ≡ marks_of of kept → length marks ≡ of
length-marks of kept marks is = ap (λ (ms : List Bool). length ms) is ∙ length-each of (is_kept kept)

-- one piece more
is_kept-more : (kept : List KeptPiece) (new : KeptPiece) (number : ℕ) → is_kept (kept ++ new ∷ []) number ≡ (is_kept kept number || new.number == number)
is_kept-more [] new number = grind (arith, common_steps)
is_kept-more (piece ∷ rest) new number = grind (arith, common_steps)

marked : (of : ℕ) (f g : ℕ → Bool) (marks : List Bool) (number : ℕ) → length marks ≡ of → ((k : ℕ) (d : Bool) → k < of → get_or marks k d ≡ f k) → number < of
    → g number ≡ true → ((k : ℕ) → (k ≡ number → ⊥) → g k ≡ f k) → set marks number true ≡ each_below of (λ number. true) g
marked of f g marks number long read below here others =
    same_lists (set marks number true) (each_below of (λ number. true) g) (length-set marks number true ∙ long ∙ sym (length-each of g)) (λ k d h. (
    let k' : k < of = subst (λ n. k < n) (length-set marks number true ∙ long) h in
    grind (arith, common_steps, (cases_eq k number), (get-each of g k d k'))))

pub marks-more : (of : ℕ) (kept : List KeptPiece) (new : KeptPiece) (marks : List Bool) → marks ≡ marks_of of kept → new.number < of → set marks new.number true ≡ marks_of of (kept ++ new ∷ [])
marks-more of kept new marks is below =
    marked of (is_kept kept) (is_kept (kept ++ new ∷ [])) marks new.number (length-marks of kept marks is) (λ k d h. marks-read of kept marks k d is h) below
    (is_kept-more kept new new.number ∙ ap (λ b. is_kept kept new.number || b) (eq-eqb new.number new.number refl) ∙ or_true (is_kept kept new.number))
    (λ k ne. is_kept-more kept new k ∙ ap (λ b. is_kept kept k || b) (ne_eqb new.number k (λ e. ne (sym e))) ∙ or_false (is_kept kept k))
  where
    or_true : (b : Bool) → (b || true) ≡ true
    or_true true = refl
    or_true false = refl

    or_false : (b : Bool) → (b || false) ≡ b
    or_false true = refl
    or_false false = refl

pub marks-first : (of : ℕ) (new : KeptPiece) (marks : List Bool) → marks ≡ replicate of false → new.number < of → set marks new.number true ≡ marks_of of (new ∷ [])
marks-first of new marks is below =
    marked of (λ k. false) (is_kept (new ∷ [])) marks new.number (ap (λ (ms : List Bool). length ms) is ∙ length-replicate of false) (λ k d h. ap (λ ms. get_or ms k d) is ∙ get_or-replicate of k false d h) below
    (rw (eq-eqb new.number new.number refl) refl)
    (λ k ne. rw (ne_eqb new.number k (λ e. ne (sym e))) refl)

-- the test that each piece is kept once, and what it says
pub once-from : (of : ℕ) (kept : List KeptPiece) → are_once of kept ≡ true → AreOnce of kept
once-from of [] h = tt
once-from of (piece ∷ rest) h =
    let below = and_parts (nat_lt piece.number of) (not (is_kept rest piece.number) && are_once of rest) h in
    let apart = and_parts (not (is_kept rest piece.number)) (are_once of rest) below.1 in
    (ltb-true piece.number of below.0, negated (is_kept rest piece.number) apart.0, once-from of rest apart.1)
  where
    negated : (b : Bool) → not b ≡ true → b ≡ false
    negated true e = sym e
    negated false e = refl

once-to : (of : ℕ) (kept : List KeptPiece) → AreOnce of kept → are_once of kept ≡ true
once-to of [] once = refl
once-to of (piece ∷ rest) once = rw (lt-ltb piece.number of once.0, once.1, once-to of rest once.2) refl

pub once-first : (of : ℕ) (new : KeptPiece) → new.number < of → are_once of (new ∷ []) ≡ true
once-first of new below = rw (lt-ltb new.number of below) refl

pub once-more : (pieces : Pieces) (new : KeptPiece) → are_once pieces.of pieces.kept ≡ true → new.number < pieces.of → has_piece pieces new.number ≡ false → are_once pieces.of (pieces.kept ++ new ∷ []) ≡ true
once-more pieces new once below out =
    let piece : Piece = record { number = new.number; of = pieces.of } in
    let stays : AreOnce pieces.of (with_piece pieces piece new.contents).kept = pieces_make_up.counted.stays pieces piece new.contents (once-from pieces.of pieces.kept once) below in
    once-to pieces.of (pieces.kept ++ new ∷ []) (rw out at stays)

-- all pieces are kept where there are as many
pub complete-counted : (pieces : Pieces) → are_once pieces.of pieces.kept ≡ true → is_complete pieces ≡ (length pieces.kept == pieces.of)
complete-counted pieces once = pieces_make_up.counted.complete pieces (once-from pieces.of pieces.kept once)

-- no piece is kept of a number that the series doesn't have
none-past : (of : ℕ) (kept : List KeptPiece) (number : ℕ) → AreOnce of kept → of ≤ number → is_kept kept number ≡ false
none-past of [] number once h = refl
none-past of (piece ∷ rest) number once h = grind (arith, common_steps, ne_eqb, (none-past of rest number once.2 h))

pub none-above : (of : ℕ) (kept : List KeptPiece) (number : ℕ) → are_once of kept ≡ true → of ≤ number → is_kept kept number ≡ false
none-above of kept number once h = none-past of kept number (once-from of kept once) h

-- the same of pieces as they are kept
pub complete-kept : (pieces : Held) (n m : ℕ) → n ≡ vec_len pieces.kept → m ≡ pieces.of → are_once pieces.of (all_kept pieces.kept.items) ≡ true → (n == m) ≡ is_complete (seen_pieces pieces)
complete-kept pieces n m count of once = grind (arith, common_steps, length-map, complete-counted)

-- a piece more that can be kept
module _ (pieces : Held) (kept : Kept) (can : CanAdd pieces kept) where
  pub marks-within : (n : ℕ) → n ≡ kept.number → n < vec_len pieces.marks
  marks-within n same = grind (arith, common_steps, length-marks, marked, vec_len)

  pub once-added : (now : List Kept) → now ≡ pieces.kept.items ++ kept ∷ [] → are_once pieces.of (all_kept now) ≡ true
  once-added now more = grind (arith, common_steps, (map-append kept_of pieces.kept.items (kept ∷ [])), (once-more (seen_pieces pieces) (kept_of kept) pieces.once can.below can.new))

  pub marked-more : (n : ℕ) (now : List Kept) → n ≡ kept.number → now ≡ pieces.kept.items ++ kept ∷ [] → slice_set pieces.marks.items n true ≡ marks_of pieces.of (all_kept now)
  marked-more n now same more = grind (arith, common_steps, (marks-more pieces.of (all_kept pieces.kept.items) (kept_of kept) pieces.marks.items pieces.marked can.below), (map-append kept_of pieces.kept.items (kept ∷ [])))

-- the first piece
pub once-alone : (of : ℕ) (kept : Kept) (now : List Kept) → now ≡ kept ∷ [] → kept.number < of → are_once of (all_kept now) ≡ true
once-alone of kept now alone below = ap (λ ks. are_once of (all_kept ks)) alone ∙ once-first of (kept_of kept) below

pub marked-first : (of : ℕ) (kept : Kept) (n : ℕ) (now : List Kept) (marks : List Bool) → n ≡ kept.number → now ≡ kept ∷ [] → marks ≡ replicate of false → kept.number < of → slice_set marks n true ≡ marks_of of (all_kept now)
marked-first of kept n now marks same alone is below = grind (arith, common_steps, (marks-first of (kept_of kept) marks is below))

-- all pieces are kept once one more is
pub complete-more : (pieces : Held) (kept : Kept) → CanAdd pieces kept → (n m : ℕ) → n ≡ vec_len pieces.kept → m ≡ pieces.of → (n + 1 == m) ≡ is_complete (record (seen_pieces pieces) { kept = all_kept pieces.kept.items ++ kept_of kept ∷ [] })
complete-more pieces kept can n m count of = grind (arith, common_steps, length-append, length-map, vec_len, complete-counted, once-more, (length-append (all_kept pieces.kept.items) (kept_of kept ∷ [])), (length-map pieces.kept.items kept_of), (vec_len pieces.kept ≡ length pieces.kept.items), (once-more (seen_pieces pieces) (kept_of kept) pieces.once can.below can.new))
