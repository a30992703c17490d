-- The number at the head of a text.
use Rattle.std.proofs.Common.{◌≡◌, ◌∙◌, ap, sym, ℕ, zero, suc, ◌+◌, ◌<◌, ◌≤◌, Bool, true, false, List, [], ◌∷◌, ◌&&◌, Some, None, length, get_or, take, drop, All, refl, eqb, leb, arith, add-one, subst, take_all, get_or-take, length-take-le}
use Rattle.std.specs.Char.{is_ascii_digit}
use Rattle.std.specs.List.{list_all, slice_split}
use Rattle.std.specs.Str.Parse.{digits_value}
use Rattle.std.proofs.lemmas.List.Elements.{All-more}
use Rattle.std.proofs.lemmas.List.Splits.{slice_split-cons_no, slice_split_none}
use Rattle.drivers.specs.Parts.{first_number}
use Rattle.drivers.specs.Words.{is_numeral, number_in}
use Rattle.drivers.proofs.Numerals.{and_false, begins, not_begun, not_digits, too_large}
use Rattle.drivers.proofs.Splits.{split_at}

-- Where no separator stands up to a place of a text, the place is one of its first part.
pub record HasPlace (p : ℕ → Bool) (xs : List ℕ) (i : ℕ) : Type 0 where
  pub part : List ℕ
  pub later : List (List ℕ)
  pub split : slice_split p xs ≡ part ∷ later
  pub inside : i < length part
  pub same : take (suc i) part ≡ take (suc i) xs

pub place_of : (p : ℕ → Bool) (xs : List ℕ) (i : ℕ) → i < length xs → ((k : ℕ) → k < suc i → p (get_or xs k 0) ≡ false) → HasPlace p xs i
place_of p [] i inside none = absurd (omega arith)
place_of p (x ∷ xs) zero inside none = go (slice_split p xs) refl
  where
    go : (parts : List (List ℕ)) → slice_split p xs ≡ parts → HasPlace p (x ∷ xs) zero
    go [] e = record { part = x ∷ []; later = []; split = slice_split-cons_no p x xs (none 0 (omega arith)) ∙ rw e refl; inside = omega arith; same = refl }
    go (part ∷ later) e = record { part = x ∷ part; later = later; split = slice_split-cons_no p x xs (none 0 (omega arith)) ∙ rw e refl; inside = omega arith; same = refl }
place_of p (x ∷ xs) (suc i) inside none =
    let there = place_of p xs i (omega arith) (λ k less. none (suc k) (omega arith)) in
    let split : slice_split p (x ∷ xs) ≡ (x ∷ there.part) ∷ there.later = slice_split-cons_no p x xs (none 0 (omega arith)) ∙ rw (there.split) refl in
    let inside : suc i < length (x ∷ there.part) = omega (arith, there.inside) in
    record { part = x ∷ there.part; later = there.later; split = split; inside = inside; same = ap (λ zs. x ∷ zs) there.same }

-- what isn't the separator, at each place of a front
each_of : (p : ℕ → Bool) (xs : List ℕ) (i : ℕ) → i < length xs → All (λ x. p x ≡ false) (take i xs) → p (get_or xs i 0) ≡ false → (k : ℕ) → k < suc i → p (get_or xs k 0) ≡ false
each_of p xs i inside before here k less =
    let more : All (λ x. p x ≡ false) (take (i + 1) xs) = All-more (λ x. p x ≡ false) xs i 0 inside before here in
    let long : length (take (i + 1) xs) ≡ i + 1 = length-take-le (i + 1) xs (omega arith) in
    let here : get_or (take (i + 1) xs) k 0 ≡ get_or xs k 0 = get_or-take (i + 1) xs k 0 (omega arith) in
    ap p (sym here) ∙ more k 0 (omega arith)

pub and_both : (a b : Bool) → (a && b) ≡ true → (a ≡ true) × (b ≡ true)
and_both true b e = (refl, e)
and_both false b e = absurd cc

-- digits are a numeral
spelled : (most value : ℕ) (word : List ℕ) → (begins word && leb value most) ≡ true → list_all is_ascii_digit word ≡ true → value ≡ digits_value 10 word → number_in most word ≡ Some value
spelled most value word e digits is =
    let both = and_both (begins word) (leb value most) e in
    let numeral : is_numeral word ≡ true = ap (λ b. b && list_all is_ascii_digit word) both.0 ∙ digits in
    let fits : leb (digits_value 10 word) most ≡ true = ap (λ n. leb n most) (sym is) ∙ both.1 in
    rw (numeral, fits) (ap Some (sym is))

-- or they aren't
unspelled : (most value : ℕ) (word : List ℕ) → (begins word && leb value most) ≡ false → value ≡ digits_value 10 word → number_in most word ≡ None
unspelled most value word e is = go (begins word) refl
  where
    go : (b : Bool) → begins word ≡ b → number_in most word ≡ None
    go false begun = not_begun most word begun
    go true begun =
        let over : leb (digits_value 10 word) most ≡ false = ap (λ n. leb n most) (sym is) ∙ (ap (λ b. b && leb value most) (sym begun) ∙ e) in
        rw (over, and_false (is_numeral word)) refl

-- as many bytes at the front, counted otherwise
same_front : (i : ℕ) (text part : List ℕ) → take (suc i) part ≡ take (suc i) text → take (i + 1) text ≡ take (i + 1) part
same_front i text part same = rw add-one (sym same)

module _ (separator most : ℕ) (text : List ℕ) (i : ℕ) where
  -- the first part ends here
  pub number_here : (value : ℕ) → i < length text → eqb (get_or text i 0) separator ≡ true → All (λ b. eqb b separator ≡ false) (take i text)
      → (begins (take i text) && leb value most) ≡ true → list_all is_ascii_digit (take i text) ≡ true → value ≡ digits_value 10 (take i text)
      → first_number most (slice_split (λ b. eqb b separator) text) ≡ Some (value, slice_split (λ b. eqb b separator) (drop (i + 1) text))
  number_here value inside here before e digits is =
      rw (split_at (λ b. eqb b separator) text i inside here before, spelled most value (take i text) e digits is) refl

  pub no_number_here : (value : ℕ) → i < length text → eqb (get_or text i 0) separator ≡ true → All (λ b. eqb b separator ≡ false) (take i text)
      → (begins (take i text) && leb value most) ≡ false → value ≡ digits_value 10 (take i text)
      → first_number most (slice_split (λ b. eqb b separator) text) ≡ None
  no_number_here value inside here before e is =
      rw (split_at (λ b. eqb b separator) text i inside here before, unspelled most value (take i text) e is) refl

  -- the first part goes on here
  pub no_digit_here : i < length text → eqb (get_or text i 0) separator ≡ false → All (λ b. eqb b separator ≡ false) (take i text) → is_ascii_digit (get_or text i 0) ≡ false
      → first_number most (slice_split (λ b. eqb b separator) text) ≡ None
  no_digit_here inside other before bad =
      let there = place_of (λ b. eqb b separator) text i inside (each_of (λ b. eqb b separator) text i inside before other) in
      let here : get_or there.part i 0 ≡ get_or text i 0 = sym (get_or-take (suc i) there.part i 0 (omega arith)) ∙ (ap (λ l. get_or l i 0) there.same ∙ get_or-take (suc i) text i 0 (omega arith)) in
      rw (there.split, not_digits most there.part i there.inside (ap is_ascii_digit here ∙ bad)) refl

  pub too_long_here : (longer : ℕ) → i < length text → eqb (get_or text i 0) separator ≡ false → All (λ b. eqb b separator ≡ false) (take i text) → longer ≡ digits_value 10 (take (i + 1) text) → most < longer
      → first_number most (slice_split (λ b. eqb b separator) text) ≡ None
  too_long_here longer inside other before is over =
      let there = place_of (λ b. eqb b separator) text i inside (each_of (λ b. eqb b separator) text i inside before other) in
      let worth : longer ≡ digits_value 10 (take (i + 1) there.part) = is ∙ ap (digits_value 10) (same_front i text there.part there.same) in
      rw (there.split, too_large most there.part (i + 1) longer worth over) refl

  -- a text that ends before a separator is its only part
  pub number_alone : (value : ℕ) → length text ≤ i → All (λ b. eqb b separator ≡ false) (take i text) → (begins text && leb value most) ≡ true → list_all is_ascii_digit (take i text) ≡ true → value ≡ digits_value 10 (take i text)
      → first_number most (slice_split (λ b. eqb b separator) text) ≡ Some (value, [])
  number_alone value over before e digits is =
      let whole = take_all i text over in
      rw (slice_split_none (λ b. eqb b separator) text (subst (All (λ b. eqb b separator ≡ false)) whole before), spelled most value text e (ap (list_all is_ascii_digit) (sym whole) ∙ digits) (is ∙ ap (digits_value 10) whole)) refl

  pub no_number_alone : (value : ℕ) → length text ≤ i → All (λ b. eqb b separator ≡ false) (take i text) → (begins text && leb value most) ≡ false → value ≡ digits_value 10 (take i text)
      → first_number most (slice_split (λ b. eqb b separator) text) ≡ None
  no_number_alone value over before e is =
      let whole = take_all i text over in
      rw (slice_split_none (λ b. eqb b separator) text (subst (All (λ b. eqb b separator ≡ false)) whole before), unspelled most value text e (is ∙ ap (digits_value 10) whole)) refl
