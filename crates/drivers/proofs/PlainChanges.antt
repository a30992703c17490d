-- Changes that are read as they come.
use Rattle.std.proofs.Common.{◌≡◌, ◌∙◌, ap, sym, ℕ, ◌+◌, ◌*◌, ◌≤◌, true, false, List, [], ◌∷◌, ◌++◌, Option, Some, None, All, append_assoc, length, drop, get_or, refl, eqb, arith, length-append, option_map, eqb-true, ne_eqb, append-nil}
use Rattle.std.specs.Char.{is_ascii_digit}
use Rattle.std.proofs.lemmas.List.Elements.{All-append, All-cons, All-weaker}
use Rattle.std.proofs.lemmas.List.Splits.{slice_split_at, slice_split_none}
use Rattle.volume_model.specs.ClientWriter as model
use Rattle.writer_core.specs.declared.change.Change.{Change}
use Rattle.writer_core.specs.Changes.{change_of, changes_of}
use Rattle.drivers.specs.Grammar.{change_by, changes_in, most_blocks, most_ids, most_offsets}
use Rattle.drivers.specs.Plain.{AreBytesAt, IsPlaceAt}
use Rattle.drivers.specs.Words.{all_bytes_in, byte_in, fields_in, is_numeral, number_in, words_in}
use Rattle.drivers.proofs.NamedLines.{digit_high, digits_in, joined, no_space, numeral_visible, spelled_at}
use Rattle.drivers.proofs.Parsing.{changes_more}
use Rattle.drivers.proofs.Turns.{all_spelled, alone, other_digits}

-- a numeral has no colon
no_colon : (word : List ℕ) → is_numeral word ≡ true → All (λ b. eqb b 58 ≡ false) word
no_colon word e = All-weaker (λ b. is_ascii_digit b ≡ true) (λ b. eqb b 58 ≡ false) (λ b d. ne_eqb b 58 (λ same. absurd (omega (arith, digit_high b d, same)))) word (digits_in word e)

abbrev NoSpace : List ℕ → Type 0
NoSpace word = All (λ b. eqb b 32 ≡ false) word

numeral_spaceless : (word : List ℕ) → is_numeral word ≡ true → NoSpace word
numeral_spaceless word e = no_space word (numeral_visible word e)

both_spaceless : (word more : List ℕ) → NoSpace word → NoSpace more → NoSpace (word ++ 58 ∷ more)
both_spaceless word more first later = All-append (λ b. eqb b 32 ≡ false) word (58 ∷ more) first (All-cons (λ b. eqb b 32 ≡ false) 58 more refl later)

fields_more : (word more : List ℕ) (fields : List (List ℕ)) → is_numeral word ≡ true → fields_in more ≡ fields → fields_in (word ++ 58 ∷ more) ≡ word ∷ fields
fields_more word more fields numeral later = slice_split_at (λ b. eqb b 58) word 58 more (no_colon word numeral) refl ∙ ap (λ fs. word ∷ fs) later

-- a change at the head of a text, of which the place and the bytes were read
module _ (text : List ℕ) (group block offset : ℕ) (digits bytes rest : List ℕ) (p : IsPlaceAt text group block offset digits) (b : AreBytesAt digits bytes rest) where
  abbrev last : List ℕ
  last = p.offset_at.word ++ 58 ∷ b.word

  abbrev later : List ℕ
  later = p.block_at.word ++ 58 ∷ last

  abbrev word : List ℕ
  word = p.group_at.word ++ 58 ∷ later

  begins : text ≡ word ++ rest
  begins =
      let three : p.third ≡ last ++ rest = joined p.third p.offset_at.word (58 ∷ digits) digits b.word rest 58 p.offset_at.is refl b.is in
      let two : p.second ≡ later ++ rest = joined p.second p.block_at.word (58 ∷ p.third) p.third last rest 58 p.block_at.is refl three in
      joined text p.group_at.word (58 ∷ p.second) p.second later rest 58 p.group_at.is refl two

  fields : fields_in word ≡ p.group_at.word ∷ p.block_at.word ∷ p.offset_at.word ∷ b.word ∷ []
  fields =
      fields_more p.group_at.word later (p.block_at.word ∷ p.offset_at.word ∷ b.word ∷ []) p.group_at.numeral
      (fields_more p.block_at.word last (p.offset_at.word ∷ b.word ∷ []) p.block_at.numeral
      (fields_more p.offset_at.word b.word (b.word ∷ []) p.offset_at.numeral (alone b.word bytes b.spelled)))

  says : change_by (fields_in word) ≡ Some (record { group = group; block = block; offset = offset; bytes = bytes })
  says =
      let group_is : number_in most_ids p.group_at.word ≡ Some group = spelled_at most_ids group p.group_at.word p.group_at.numeral p.group_at.worth p.group_fits in
      let block_is : number_in most_blocks p.block_at.word ≡ Some block = spelled_at most_blocks block p.block_at.word p.block_at.numeral p.block_at.worth p.block_at.below in
      let offset_is : number_in most_offsets p.offset_at.word ≡ Some offset = spelled_at most_offsets offset p.offset_at.word p.offset_at.numeral p.offset_at.worth p.offset_fits in
      rw (fields, group_is, block_is, offset_is, b.spelled) refl

  spaceless : NoSpace word
  spaceless =
      both_spaceless p.group_at.word later (numeral_spaceless p.group_at.word p.group_at.numeral)
      (both_spaceless p.block_at.word last (numeral_spaceless p.block_at.word p.block_at.numeral)
      (both_spaceless p.offset_at.word b.word (numeral_spaceless p.offset_at.word p.offset_at.numeral) (other_digits 32 refl b.word bytes (all_spelled b.word bytes b.spelled))))

  module _ (all : Option (List model.Change)) (items new : List Change) (c : Change) (before : all ≡ option_map (λ more. changes_of items ++ more) (changes_in (words_in text)))
      (is : change_of c ≡ record { group = group; block = block; offset = offset; bytes = bytes }) (is_new : new ≡ items ++ c ∷ []) where
    said : change_by (fields_in word) ≡ Some (change_of c)
    said = says ∙ ap Some (sym is)

    -- another change comes after it
    pub one_more : (more : List ℕ) → rest ≡ 32 ∷ more → all ≡ option_map (λ more. changes_of new ++ more) (changes_in (words_in more))
    one_more more space =
        let words : words_in text ≡ word ∷ words_in more = ap words_in (begins ∙ ap (λ r. word ++ r) space) ∙ slice_split_at (λ b. eqb b 32) word 32 more spaceless refl in
        changes_more all (words_in text) (words_in more) word items new c before words said is_new

    -- it is the last one
    pub last_one : rest ≡ [] → all ≡ Some (changes_of new)
    last_one end =
        let words : words_in text ≡ word ∷ [] = ap words_in (begins ∙ (ap (λ r. word ++ r) end ∙ append-nil word)) ∙ slice_split_none (λ b. eqb b 32) word spaceless in
        changes_more all (words_in text) [] word items new c before words said is_new ∙ ap Some (append-nil (changes_of new))

-- nothing is left
pub none_left : (xs : List ℕ) → eqb (length xs) 0 ≡ true → xs ≡ []
none_left [] e = refl
none_left (x ∷ xs) e = absurd (omega (arith, eqb-true (length (x ∷ xs)) 0 e))

-- a text begins with the digits of so many bytes, and goes on with this
pub record AreSpelled (text bytes rest : List ℕ) (count : ℕ) : Type 0 where
  pub word : List ℕ
  pub is : text ≡ word ++ rest
  pub long : length word ≡ count * 2
  pub all : all_bytes_in word ≡ Some bytes

byte_after : (word bytes : List ℕ) (high low byte : ℕ) → all_bytes_in word ≡ Some bytes → byte_in high low ≡ Some byte → all_bytes_in (word ++ high ∷ low ∷ []) ≡ Some (bytes ++ byte ∷ [])
byte_after [] bytes high low byte all is = let none : [] ≡ bytes = cc in rw (is, ← none) refl
byte_after (h ∷ []) bytes high low byte all is = absurd cc
byte_after (h ∷ l ∷ more) bytes high low byte all is = go (byte_in h l) (all_bytes_in more) refl refl (λ later el. byte_after more later high low byte el is)
  where
    go : (first : Option ℕ) (later : Option (List ℕ)) → byte_in h l ≡ first → all_bytes_in more ≡ later → ((found : List ℕ) → all_bytes_in more ≡ Some found → all_bytes_in (more ++ high ∷ low ∷ []) ≡ Some (found ++ byte ∷ []))
        → all_bytes_in ((h ∷ l ∷ more) ++ high ∷ low ∷ []) ≡ Some (bytes ++ byte ∷ [])
    go None later ef el rest = absurd (let none : all_bytes_in (h ∷ l ∷ more) ≡ None = rw ef refl in let bad : None ≡ Some bytes = sym none ∙ all in cc)
    go (Some first) None ef el rest = absurd (let none : all_bytes_in (h ∷ l ∷ more) ≡ None = rw (ef, el) refl in let bad : None ≡ Some bytes = sym none ∙ all in cc)
    go (Some first) (Some later) ef el rest =
        let whole : all_bytes_in (h ∷ l ∷ more) ≡ Some (first ∷ later) = rw (ef, el) refl in
        let same : first ∷ later ≡ bytes = let e : Some (first ∷ later) ≡ Some bytes = sym whole ∙ all in cc in
        rw (ef, rest later el) (ap (λ bs. Some (bs ++ byte ∷ [])) same)

two_first : (xs : List ℕ) → 2 ≤ length xs → xs ≡ get_or xs 0 0 ∷ get_or xs 1 0 ∷ drop 2 xs
two_first [] two = absurd (omega arith)
two_first (x ∷ []) two = absurd (omega arith)
two_first (x ∷ y ∷ xs) two = refl

-- one byte more
pub spelled_more : (text bytes items rest more : List ℕ) (count byte : ℕ) → AreSpelled text bytes rest count → 2 ≤ length rest → byte_in (get_or rest 0 0) (get_or rest 1 0) ≡ Some byte → more ≡ drop 2 rest → items ≡ bytes ++ byte ∷ []
    → AreSpelled text items more (count + 1)
spelled_more text bytes items rest more count byte s two is is_more is_items =
    let ends : List ℕ = get_or rest 0 0 ∷ get_or rest 1 0 ∷ [] in
    let goes : rest ≡ ends ++ more = two_first rest two ∙ ap (λ r. get_or rest 0 0 ∷ get_or rest 1 0 ∷ r) (sym is_more) in
    record {
      word = s.word ++ ends;
      is = s.is ∙ (ap (λ r. s.word ++ r) goes ∙ sym (append_assoc s.word ends more));
      long = omega (arith, length-append s.word ends, s.long);
      all = byte_after s.word bytes (get_or rest 0 0) (get_or rest 1 0) byte s.all is ∙ ap Some (sym is_items);
    }
