-- A message's name, the last word of a line.
use Rattle.std.proofs.Common.{◌≡◌, ◌∙◌, ap, sym, subst, ℕ, ◌&&◌, Bool, true, false, List, [], ◌∷◌, ◌++◌, Option, Some, None, All, get_or, refl, eqb, arith, eqb-true}
use Rattle.std.specs.Char.{is_ascii_digit}
use Rattle.std.specs.List.{join_with_byte, list_all}
use Rattle.std.proofs.lemmas.List.Elements.{All-append}
use Rattle.std.proofs.lemmas.List.Folds.{list_all_at}
use Rattle.std.proofs.lemmas.List.Splits.{join_with_byte-slice_split, slice_split_none}
use Rattle.drivers.specs.Grammar.{most_numbers, name_in}
use Rattle.drivers.specs.Parts.{only_name}
use Rattle.drivers.specs.Words.{number_in, sides_in, words_in}
use Rattle.drivers.proofs.Numerals.{and_false, begins, none_by}

-- no digit is a space
no_space : (xs : List ℕ) → list_all is_ascii_digit xs ≡ true → All (λ b. eqb b 32 ≡ false) xs
no_space xs digits k d inside = go (eqb (get_or xs k d) 32) refl
  where
    go : (b : Bool) → eqb (get_or xs k d) 32 ≡ b → b ≡ false
    go false e = refl
    go true e =
        let space : is_ascii_digit (get_or xs k d) ≡ false = rw (eqb-true (get_or xs k d) 32 e) refl in
        let other = list_all_at is_ascii_digit xs k d inside space in
        absurd (let bad : true ≡ false = sym digits ∙ other in cc)

-- a number is made of digits
of_digits : (most n : ℕ) (word : List ℕ) → number_in most word ≡ Some n → list_all is_ascii_digit word ≡ true
of_digits most n word e = go (list_all is_ascii_digit word) refl
  where
    go : (b : Bool) → list_all is_ascii_digit word ≡ b → b ≡ true
    go true digits = refl
    go false digits =
        let none : number_in most word ≡ None = none_by most word (ap (λ b. begins word && b) digits ∙ and_false (begins word)) in
        absurd (let bad : None ≡ Some n = sym none ∙ e in cc)

-- nor does a name have one
module _ (earlier : ℕ) (text : List ℕ) where
  named : (sides : List (List ℕ)) → sides_in text ≡ sides → (n : ℕ × ℕ) → name_in earlier sides ≡ Some n → All (λ b. eqb b 32 ≡ false) text
  named [] is n e = absurd cc
  named (a ∷ []) is n e = absurd cc
  named (a ∷ b ∷ []) is n e = go (number_in most_numbers a) (number_in most_numbers b) refl refl
    where
      joined : a ++ 46 ∷ b ≡ text
      joined = ap (join_with_byte 46) (sym is) ∙ join_with_byte-slice_split 46 text

      dot : All (λ b. eqb b 32 ≡ false) (46 ∷ [])
      dot k d inside = let first : k ≡ 0 = omega arith in rw first refl

      go : (l p : Option ℕ) → number_in most_numbers a ≡ l → number_in most_numbers b ≡ p → All (λ b. eqb b 32 ≡ false) text
      go None p el ep = absurd (let none : name_in earlier (a ∷ b ∷ []) ≡ None = rw el refl in let bad : None ≡ Some n = sym none ∙ e in cc)
      go (Some l) None el ep = absurd (let none : name_in earlier (a ∷ b ∷ []) ≡ None = rw (el, ep) refl in let bad : None ≡ Some n = sym none ∙ e in cc)
      go (Some l) (Some p) el ep =
          let P : ℕ → Type 0 = λ b. eqb b 32 ≡ false in
          subst (All P) joined (All-append P a (46 ∷ b) (no_space a (of_digits most_numbers l a el)) (All-append P (46 ∷ []) b dot (no_space b (of_digits most_numbers p b ep))))
  named (a ∷ b ∷ c ∷ more) is n e = absurd cc

  -- a text is the only word that is a name where it is one
  pub only_is : only_name earlier (words_in text) ≡ name_in earlier (sides_in text)
  only_is = go (name_in earlier (sides_in text)) refl
    where
      none_of : (words : List (List ℕ)) → words_in text ≡ words → name_in earlier (sides_in text) ≡ None → only_name earlier words ≡ None
      none_of [] is none = refl
      none_of (w ∷ []) is none =
          let same : w ≡ text = ap (join_with_byte 32) (sym is) ∙ join_with_byte-slice_split 32 text in
          rw (same, none) refl
      none_of (w ∷ v ∷ more) is none = refl

      go : (found : Option (ℕ × ℕ)) → name_in earlier (sides_in text) ≡ found → only_name earlier (words_in text) ≡ found
      go None e = none_of (words_in text) refl e
      go (Some n) e = rw (slice_split_none (λ b. eqb b 32) text (named (sides_in text) refl n e), e) refl
