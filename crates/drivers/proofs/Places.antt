-- The first place of a byte.
use Rattle.memchr.specs.Find.{IsFirstByte, is_byte}
use Rattle.std.proofs.Common.{◌≡◌, ap, sym, ◌∙◌, ℕ, ◌+◌, ◌<◌, List, [], ◌∷◌, true, false, Option, Some, None, length, drop, take, get_or, arith, refl, ltb, eqb, get_or-take, length-take-le}
use Rattle.std.specs.List.{position, position_or_len, slice_split}
use Rattle.std.proofs.lemmas.Bool.{false_from_ne_true, lt-ltb, le-ltb}
use Rattle.std.proofs.lemmas.List.Quantifiers.{position-Some}
use Rattle.std.proofs.lemmas.List.Sums.{fails_before_first, position_or_len_is}
use Rattle.std.proofs.lemmas.List.Splits.{slice_split_none}
use Rattle.drivers.proofs.Lines.{none_found}
use Rattle.drivers.proofs.Splits.{split_at}

-- the first place of a byte, found by another search
pub place_found : (byte : ℕ) (text : List ℕ) (place : Option ℕ) → IsFirstByte (is_byte byte) text place → place ≡ position (λ b. eqb b byte) text
place_found byte text (Some e) h =
    let at : position_or_len (λ b. eqb b byte) text ≡ e = position_or_len_is (λ b. eqb b byte) text e 0 (omega arith) (λ k less. false_from_ne_true (eqb (get_or text k 0) byte) (h.0.before k (omega arith) less)) (λ _. h.1) in
    let inside : ltb e (length text) ≡ true = lt-ltb e (length text) h.0.high in
    rw (at, inside) refl
place_found byte text None h =
    let at : position_or_len (λ b. eqb b byte) text ≡ length text = position_or_len_is (λ b. eqb b byte) text (length text) 0 (omega arith) (λ k less. false_from_ne_true (eqb (get_or text k 0) byte) (h k (omega arith) less)) (λ less. absurd (omega arith)) in
    let outside : ltb (length text) (length text) ≡ false = le-ltb (length text) (length text) (omega arith) in
    rw (at, outside) refl

-- a text is cut at the first place of a separator
pub cut_at : (separator : ℕ) (text : List ℕ) (at : ℕ) → Some at ≡ position (λ b. eqb b separator) text → slice_split (λ b. eqb b separator) text ≡ take at text ∷ slice_split (λ b. eqb b separator) (drop (at + 1) text)
cut_at separator text at e =
    let found = position-Some (λ b. eqb b separator) text at 0 (sym e) in
    let long : length (take at text) ≡ at = length-take-le at text (omega (arith, found.0)) in
    split_at (λ b. eqb b separator) text at found.0 found.1 (λ k d less.
    let below : k < at = omega arith in
    ap (λ b. eqb b separator) (get_or-take at text k d below) ∙ (position-Some (λ b. eqb b separator) text at d (sym e)).2 k below)

-- or it is its only part
pub uncut : (separator : ℕ) (text : List ℕ) → None ≡ position (λ b. eqb b separator) text → slice_split (λ b. eqb b separator) text ≡ text ∷ []
uncut separator text e =
    let over = none_found (position_or_len (λ b. eqb b separator) text) (length text) (sym e) in
    slice_split_none (λ b. eqb b separator) text (λ k d less. fails_before_first (λ b. eqb b separator) text k d (omega (arith, over, less)))
