-- The place of a copy, and copies with a piece more.
use Rattle.std.proofs.Common.{◌≡◌, ℕ, zero, suc, ◌+◌, ◌<◌, ◌⊎◌, true, false, ◌==◌, List, [], ◌∷◌, ◌++◌, length, get_or, set, Option, Some, None, refl, sym, ap, subst, ◌∙◌, inl, inr, arith, option_map}
use Rattle.std.proofs.lemmas.List.{length-map}
use Rattle.volume_model.specs.Common.{Contents, Piece, Copy, first_piece, pieces_from, with_series, with_copy}
use Rattle.volume_model.specs.Pieces as model
use Rattle.hydration.specs.declared.change.Change.{Change}
use Rattle.hydration.specs.declared.kept_copy.KeptCopy.{KeptCopy}
use Rattle.hydration.specs.Pieces.{seen_pieces}
use Rattle.hydration.specs.Changes.{changed}
use Rattle.hydration.specs.KeptCopies.{all_kept_copies, kept_copy_of}
use Rattle.hydration.specs.Hydration.{changed_at, place_of}
use Rattle.std.proofs.lemmas.Grind.{common_steps}

none_some : (n : ℕ) → None ≡ Some n → ⊥
none_some n h = cc

first_or_rest : (copy : Copy) (rest : List Copy) (sender p : ℕ) → place_of (copy ∷ rest) sender ≡ Some p
    → (((copy.sender == sender) ≡ true) × (p ≡ zero)) ⊎ (((copy.sender == sender) ≡ false) × ((q : ℕ) × (place_of rest sender ≡ Some q) × (p ≡ suc q)))
first_or_rest copy rest sender p h = grind (arith, common_steps)

-- the copy at the place of its sender
pub place-within : (copies : List Copy) (sender p : ℕ) → place_of copies sender ≡ Some p → p < length copies
place-within [] sender p h = absurd (none_some p h)
place-within (copy ∷ rest) sender p h =
    elim (first_or_rest copy rest sender p h) [
      | inl f ↦ (let z : p ≡ zero = f.1 in omega arith)
      | inr f ↦ (let (q, k, z) = f.1 in let l : q < length rest = place-within rest sender q k in omega arith)
    ]

pub place-pieces : (copies : List Copy) (sender p : ℕ) (d : Copy) → place_of copies sender ≡ Some p → pieces_from copies sender ≡ Some (get_or copies p d).pieces
place-pieces [] sender p d h = absurd (none_some p h)
place-pieces (copy ∷ rest) sender p d h =
    elim (first_or_rest copy rest sender p h) [
      | inl f ↦ first f.0 ∙ ap (λ n. Some (get_or (copy ∷ rest) n d).pieces) (sym f.1)
      | inr f ↦ (let (q, k, z) = f.1 in further f.0 ∙ place-pieces rest sender q d k ∙ ap (λ n. Some (get_or (copy ∷ rest) n d).pieces) (sym z))
    ]
  where
    first : (copy.sender == sender) ≡ true → pieces_from (copy ∷ rest) sender ≡ Some copy.pieces
    first e = rw e refl

    further : (copy.sender == sender) ≡ false → pieces_from (copy ∷ rest) sender ≡ pieces_from rest sender
    further e = rw e refl

with-rest : (copy : Copy) (rest : List Copy) (sender series : ℕ) (piece : Piece) (c : Contents) → (copy.sender == sender) ≡ false → with_copy sender series piece c (copy ∷ rest) ≡ copy ∷ with_copy sender series piece c rest
with-rest copy rest sender series piece c e = rw e refl

pub place-with : (copies : List Copy) (sender p series : ℕ) (piece : Piece) (c : Contents) (change : Change) (d : Copy) → place_of copies sender ≡ Some p
    → changed change (get_or copies p d).pieces ≡ with_series (get_or copies p d).pieces series piece c → changed_at p change copies ≡ with_copy sender series piece c copies
place-with [] sender p series piece c change d h made = absurd (none_some p h)
place-with (copy ∷ rest) sender p series piece c change d h made =
    elim (first_or_rest copy rest sender p h) [
      | inl f ↦ grind (arith, common_steps)
      | inr f ↦ (
          let (q, k, z) = f.1 in
          let made' : changed change (get_or rest q d).pieces ≡ with_series (get_or rest q d).pieces series piece c = subst (λ n. changed change (get_or (copy ∷ rest) n d).pieces ≡ with_series (get_or (copy ∷ rest) n d).pieces series piece c) z made in
          ap (λ n. changed_at n change (copy ∷ rest)) z ∙ ap (λ cs. copy ∷ cs) (place-with rest sender q series piece c change d k made') ∙ sym (with-rest copy rest sender series piece c f.0))
    ]

-- where no piece is kept of the sender
none_first : (copy : Copy) (rest : List Copy) (sender : ℕ) → place_of (copy ∷ rest) sender ≡ None → ((copy.sender == sender) ≡ false) × (place_of rest sender ≡ None)
none_first copy rest sender h = grind (arith, common_steps)

pub none-pieces : (copies : List Copy) (sender : ℕ) → place_of copies sender ≡ None → pieces_from copies sender ≡ None
none-pieces [] sender h = refl
none-pieces (copy ∷ rest) sender h =
    let f : ((copy.sender == sender) ≡ false) × (place_of rest sender ≡ None) = none_first copy rest sender h in
    rw f.0 (none-pieces rest sender f.1)

pub none-with : (copies : List Copy) (sender series : ℕ) (piece : Piece) (c : Contents) → place_of copies sender ≡ None → with_copy sender series piece c copies ≡ copies ++ record { sender = sender; pieces = first_piece series piece c } ∷ []
none-with [] sender series piece c h = refl
none-with (copy ∷ rest) sender series piece c h =
    let f : ((copy.sender == sender) ≡ false) × (place_of rest sender ≡ None) = none_first copy rest sender h in
    with-rest copy rest sender series piece c f.0 ∙ ap (λ cs. copy ∷ cs) (none-with rest sender series piece c f.1)

-- a copy that is changed at its place
pub changed-set : (copies : List KeptCopy) (p : ℕ) (new : KeptCopy) (change : Change) (d : KeptCopy) → p < length copies
    → kept_copy_of new ≡ record { sender = (get_or copies p d).from; pieces = changed change (kept_copy_of (get_or copies p d)).pieces } → all_kept_copies (set copies p new) ≡ changed_at p change (all_kept_copies copies)
changed-set [] p new change d h is = absurd (omega arith)
changed-set (copy ∷ rest) zero new change d h is = ap (λ c. c ∷ all_kept_copies rest) is
changed-set (copy ∷ rest) (suc p) new change d h is = ap (λ cs. kept_copy_of copy ∷ cs) (changed-set rest p new change d (omega arith) is)

pub same-set : (copies : List KeptCopy) (p : ℕ) (new : KeptCopy) (d : KeptCopy) → p < length copies → kept_copy_of new ≡ kept_copy_of (get_or copies p d) → all_kept_copies (set copies p new) ≡ all_kept_copies copies
same-set [] p new d h is = absurd (omega arith)
same-set (copy ∷ rest) zero new d h is = ap (λ c. c ∷ all_kept_copies rest) is
same-set (copy ∷ rest) (suc p) new d h is = ap (λ cs. kept_copy_of copy ∷ cs) (same-set rest p new d (omega arith) is)

-- the element at a place, as a copy
pub kept_copy-at : (copies : List KeptCopy) (p : ℕ) (d : KeptCopy) → p < length copies → get_or (all_kept_copies copies) p (kept_copy_of d) ≡ kept_copy_of (get_or copies p d)
kept_copy-at [] p d h = absurd (omega arith)
kept_copy-at (copy ∷ rest) zero d h = refl
kept_copy-at (copy ∷ rest) (suc p) d h = kept_copy-at rest p d (omega arith)

further : (i : ℕ) (o : Option ℕ) → option_map (λ k. i + k) (option_map suc o) ≡ option_map (λ k. (i + 1) + k) o
further i None = refl
further i (Some k) = (let e : i + suc k ≡ (i + 1) + k = omega arith in ap Some e)

abbrev make : ℕ → model.Pieces → Copy
make sender pieces = record { sender = sender; pieces = pieces }

-- the copy at a place with other pieces
module _ (copies : List KeptCopy) (p : ℕ) (old new : KeptCopy) (within : p < length copies) (is : old ≡ get_or copies p old) (from : new.from ≡ old.from) where
  pub pieces-changed : (change : Change) → seen_pieces new.pieces ≡ changed change (seen_pieces old.pieces) → all_kept_copies (set copies p new) ≡ changed_at p change (all_kept_copies copies)
  pieces-changed change made = grind (arith, common_steps, changed-set, make)

  pub pieces-same : seen_pieces new.pieces ≡ seen_pieces old.pieces → all_kept_copies (set copies p new) ≡ all_kept_copies copies
  pieces-same same = same-set copies p new old within (ap (make new.from) same ∙ ap (λ n. make n (seen_pieces old.pieces)) from ∙ ap kept_copy_of is)

-- the place of a sender's copy, among those that are kept
pub place-inside : (copies : List KeptCopy) (sender p : ℕ) → place_of (all_kept_copies copies) sender ≡ Some p → p < length copies
place-inside copies sender p h = subst (λ n. p < n) (length-map copies kept_copy_of) (place-within (all_kept_copies copies) sender p h)

-- what is kept of a sender whose copy stands at a place
pub place-at : (copies : List KeptCopy) (sender p : ℕ) (copy : KeptCopy) → place_of (all_kept_copies copies) sender ≡ Some p → copy ≡ get_or copies p copy → pieces_from (all_kept_copies copies) sender ≡ Some (seen_pieces copy.pieces)
place-at copies sender p copy h is =
    place-pieces (all_kept_copies copies) sender p (kept_copy_of copy) h
    ∙ ap (λ (c : Copy). Some c.pieces) (kept_copy-at copies p copy (place-inside copies sender p h))
    ∙ ap (λ (c : KeptCopy). Some (seen_pieces c.pieces)) (sym is)
