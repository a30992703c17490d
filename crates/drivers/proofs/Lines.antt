-- The first line of a text, and the rest.
use Rattle.std.proofs.Common.{◌≡◌, ◌≢◌, ◌∙◌, ap, sym, ℕ, ◌+◌, ◌-◌, ◌<◌, ◌≤◌, suc, List, [], ◌∷◌, Bool, true, false, Option, Some, None, length, drop, take, arith, refl, cond, ltb, eqb}
use Rattle.std.specs.List.{position, position_or_len}
use Rattle.std.proofs.lemmas.Bool.Decides.{nat_tests}
use Rattle.std.proofs.lemmas.Grind.{common_steps}
use Rattle.drivers.specs.Named.{IsFirstLine}
use Rattle.drivers.specs.Pieces.{pieces, before_newline}

abbrev pub newline_at : List ℕ → ℕ
newline_at text = position_or_len (λ b. eqb b 10) text

-- a place that was found is one
found : (n m e : ℕ) → cond (ltb n m) (Some n) None ≡ Some e → (n < m) × (n ≡ e)
found n m e h = grind (arith, nat_tests)

pub none_found : (n m : ℕ) → cond (ltb n m) (Some n) None ≡ None → m ≤ n
none_found n m h = grind (arith, nat_tests)

newline_here : (b : ℕ) (text : List ℕ) → eqb b 10 ≡ true → newline_at (b ∷ text) ≡ 0
newline_here b text e = rw e refl

newline_later : (b : ℕ) (text : List ℕ) → eqb b 10 ≡ false → newline_at (b ∷ text) ≡ suc (newline_at text)
newline_later b text e = rw e (omega arith)

first_piece : (text : List ℕ) → newline_at text < length text → pieces text ≡ take (suc (newline_at text)) text ∷ pieces (drop (suc (newline_at text)) text)
first_piece [] h = absurd (omega arith)
first_piece (b ∷ text) h = go (first_piece text) (eqb b 10) refl
  where
    go : (newline_at text < length text → pieces text ≡ take (suc (newline_at text)) text ∷ pieces (drop (suc (newline_at text)) text)) → (t : Bool) → eqb b 10 ≡ t → pieces (b ∷ text) ≡ take (suc (newline_at (b ∷ text))) (b ∷ text) ∷ pieces (drop (suc (newline_at (b ∷ text))) (b ∷ text))
    go later true e = rw (newline_here b text e, e) refl
    go later false e =
        let less : newline_at text < length text = omega (arith, newline_later b text e, h) in
        rw (newline_later b text e, e, later less) refl

before_first_newline : (text : List ℕ) → newline_at text < length text → before_newline (take (suc (newline_at text)) text) ≡ take (newline_at text) text
before_first_newline [] h = absurd (omega arith)
before_first_newline (b ∷ text) h = go (before_first_newline text) (eqb b 10) refl
  where
    go : (newline_at text < length text → before_newline (take (suc (newline_at text)) text) ≡ take (newline_at text) text) → (t : Bool) → eqb b 10 ≡ t → before_newline (take (suc (newline_at (b ∷ text))) (b ∷ text)) ≡ take (newline_at (b ∷ text)) (b ∷ text)
    go later true e = rw (newline_here b text e, e) refl
    go later false e =
        let less : newline_at text < length text = omega (arith, newline_later b text e, h) in
        rw (newline_later b text e, e, later less) refl

only_piece : (text : List ℕ) → text ≢ [] → length text ≤ newline_at text → pieces text ≡ text ∷ []
only_piece [] some h = absurd (some refl)
only_piece (b ∷ text) some h = go (only_piece text) (eqb b 10) refl text refl
  where
    go : (text ≢ [] → length text ≤ newline_at text → pieces text ≡ text ∷ []) → (t : Bool) → eqb b 10 ≡ t → (rest : List ℕ) → text ≡ rest → pieces (b ∷ text) ≡ (b ∷ text) ∷ []
    go later true e rest r = absurd (omega (arith, newline_here b text e, h))
    go later false e [] r = rw (e, r) refl
    go later false e (c ∷ rest) r = rw (e, later (λ none. let bad : c ∷ rest ≡ [] = sym r ∙ none in cc) (omega (arith, newline_later b text e, h))) refl

no_newline : (text : List ℕ) → length text ≤ newline_at text → before_newline text ≡ text
no_newline [] h = refl
no_newline (b ∷ text) h = go (no_newline text) (eqb b 10) refl
  where
    go : (length text ≤ newline_at text → before_newline text ≡ text) → (t : Bool) → eqb b 10 ≡ t → before_newline (b ∷ text) ≡ b ∷ text
    go later true e = absurd (omega (arith, newline_here b text e, h))
    go later false e = rw (e, later (omega (arith, newline_later b text e, h))) refl

-- the first line ends at the first newline
split_by : (text after : List ℕ) (n : ℕ) → newline_at text ≡ n → n < length text → after ≡ drop (suc n) text → IsFirstLine text (take n text) after
split_by text after n e less is_after =
    let long : length after + suc n ≡ length text = rw is_after (grind (arith, common_steps)) in
    let taken : length text - length after ≡ suc n = omega arith in
    let at : newline_at text < length text = omega arith in
    record {
      first = rw (taken, ← e) (sym (before_first_newline text at));
      pieces_are = rw (taken, is_after, ← e) (first_piece text at);
      shorter = omega arith;
    }

pub split_at_newline : (text after : List ℕ) (n : ℕ) → Some n ≡ position (λ b. eqb b 10) text → after ≡ drop (n + 1) text → IsFirstLine text (take n text) after
split_at_newline text after n e is_after =
    let f = found (newline_at text) (length text) n (sym e) in
    let less : n < length text = omega arith in
    split_by text after n f.1 less (is_after ∙ grind (arith, common_steps))

pub split_without_newline : (text : List ℕ) → text ≢ [] → None ≡ position (λ b. eqb b 10) text → IsFirstLine text text []
split_without_newline [] some e = absurd (some refl)
split_without_newline (b ∷ text) some e =
    let long = none_found (newline_at (b ∷ text)) (length (b ∷ text)) (sym e) in
    let whole : take (length (b ∷ text) - 0) (b ∷ text) ≡ b ∷ text = grind (arith, common_steps) in
    record {
      first = rw whole (sym (no_newline (b ∷ text) long));
      pieces_are = rw whole (only_piece (b ∷ text) some long);
      shorter = omega arith;
    }

-- a slice to the end is what comes after its beginning
pub rest_is : (text : List ℕ) (n : ℕ) → take (length text - n) (drop n text) ≡ drop n text
rest_is text n = grind (arith, common_steps)

pub is_some : (text : List ℕ) → 0 < length text → text ≢ []
is_some text some none = absurd (omega (arith, some, ap length none))

-- a text that isn't empty has a first line
pub first_there : (text : List ℕ) → text ≢ [] → (line : List ℕ) × (after : List ℕ) × IsFirstLine text line after
first_there text some = go (position (λ b. eqb b 10) text) refl
  where
    go : (place : Option ℕ) → position (λ b. eqb b 10) text ≡ place → (line : List ℕ) × (after : List ℕ) × IsFirstLine text line after
    go None e = (text, [], split_without_newline text some (sym e))
    go (Some n) e = (take n text, drop (n + 1) text, split_at_newline text (drop (n + 1) text) n (sym e) refl)
