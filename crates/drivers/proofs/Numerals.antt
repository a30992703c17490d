-- What numerals and digits spell.
use Rattle.std.proofs.Common.{◌≡◌, ◌∙◌, ap, sym, ℕ, ◌+◌, ◌-◌, ◌*◌, List, [], ◌∷◌, ◌++◌, ◌&&◌, ◌||◌, not, ◌<◌, ◌≤◌, Bool, true, false, Option, Some, None, length, drop, take, get_or, arith, refl, option_map, leb, eqb, lit≤, append_assoc}
use Rattle.std.specs.Char.{digit_value, is_ascii_digit}
use Rattle.std.specs.List.{list_all}
use Rattle.std.specs.Str.Parse.{digits_value}
use Rattle.std.proofs.lemmas.Bool.{lt-leb}
use Rattle.std.proofs.lemmas.Bool.Decides.{nat_tests}
use Rattle.std.proofs.lemmas.Grind.{common_steps}
use Rattle.std.proofs.lemmas.Int.Digits.{digits_value_more}
use Rattle.std.proofs.lemmas.List.Folds.{list_all_at, list_all_more}
use Rattle.std.proofs.lemmas.Str.Parse.{digits_value-take-le}
use Rattle.drivers.specs.Words.{is_numeral, number_in, byte_in, all_bytes_in}

pub and_false : (a : Bool) → (a && false) ≡ false
and_false true = refl
and_false false = refl

-- whether the first of the digits may stand there
abbrev pub begins : List ℕ → Bool
begins word = leb 1 (length word) && (leb (length word) 1 || not (eqb (get_or word 0 0) 48))

pub none_by : (most : ℕ) (word : List ℕ) → is_numeral word ≡ false → number_in most word ≡ None
none_by most word e = rw e refl

-- a text that doesn't begin as a numeral is none
pub not_begun : (most : ℕ) (word : List ℕ) → begins word ≡ false → number_in most word ≡ None
not_begun most word e = none_by most word (ap (λ b. b && list_all is_ascii_digit word) e)

-- nor is one with another byte than digits
pub not_digits : (most : ℕ) (word : List ℕ) (i : ℕ) → i < length word → is_ascii_digit (get_or word i 0) ≡ false → number_in most word ≡ None
not_digits most word i inside other = none_by most word (ap (λ b. begins word && b) (list_all_at is_ascii_digit word i 0 inside other) ∙ and_false (begins word))

-- one digit more
pub digit_more : (word : List ℕ) (i value : ℕ) → i < length word → is_ascii_digit (get_or word i 0) ≡ true → value ≡ digits_value 10 (take i word) → value * 10 + (get_or word i 0 - 48) ≡ digits_value 10 (take (i + 1) word)
digit_more word i value inside digit is =
    let worth : digit_value (get_or word i 0) ≡ get_or word i 0 - 48 = grind (arith, nat_tests) in
    rw (digits_value_more 10 word i inside, worth, is) refl

pub digits_more : (word : List ℕ) (i : ℕ) → i < length word → list_all is_ascii_digit (take i word) ≡ true → is_ascii_digit (get_or word i 0) ≡ true → list_all is_ascii_digit (take (i + 1) word) ≡ true
digits_more word i inside before digit = rw (list_all_more is_ascii_digit word i 0 inside, before, digit) refl

-- digits whose first ones are too large spell no number
pub too_large : (most : ℕ) (word : List ℕ) (i longer : ℕ) → longer ≡ digits_value 10 (take i word) → most < longer → number_in most word ≡ None
too_large most word i longer is more =
    let over : leb (digits_value 10 word) most ≡ false = lt-leb (digits_value 10 word) most (omega (arith, is, more, digits_value-take-le 10 word i (lit≤ tt))) in
    rw (over, and_false (is_numeral word)) refl

all_after : (bytes : List ℕ) (b : ℕ) (there : Option (List ℕ)) → option_map (λ more. bytes ++ more) (option_map (λ more. b ∷ more) there) ≡ option_map (λ more. (bytes ++ b ∷ []) ++ more) there
all_after bytes b None = refl
all_after bytes b (Some more) = ap Some (sym (append_assoc bytes (b ∷ []) more))

-- before any byte
pub none_yet : (there : Option (List ℕ)) → there ≡ option_map (λ more. [] ++ more) there
none_yet None = refl
none_yet (Some bytes) = refl

-- one byte more
pub bytes_more : (word bytes items digits rest : List ℕ) (b : ℕ) → all_bytes_in word ≡ option_map (λ more. bytes ++ more) (all_bytes_in digits) → 2 ≤ length digits → rest ≡ drop 2 digits
    → byte_in (get_or digits 0 0) (get_or digits 1 0) ≡ Some b → items ≡ bytes ++ b ∷ [] → all_bytes_in word ≡ option_map (λ more. items ++ more) (all_bytes_in rest)
bytes_more word bytes items [] rest b e two is_rest byte is_items = absurd (omega arith)
bytes_more word bytes items (h ∷ []) rest b e two is_rest byte is_items = absurd (omega arith)
bytes_more word bytes items (h ∷ l ∷ more) rest b e two is_rest byte is_items =
    rw (is_rest, is_items, e, byte) (all_after bytes b (all_bytes_in more))

-- what comes after the first two
pub after_two : (xs : List ℕ) → take (length xs - 2) (drop 2 xs) ≡ drop 2 xs
after_two xs = grind (arith, common_steps)
