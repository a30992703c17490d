-- Words that are read in turn.
use Rattle.std.proofs.Common.{◌≡◌, ◌∙◌, ◌&&◌, ap, sym, subst, ℕ, Bool, true, false, if◌then◌else◌, List, [], ◌∷◌, Option, Some, None, Result, Ok, Err, All, eqb, leb, length, refl, option_map, ne_eqb}
use Rattle.std.specs.List.{join_with_byte}
use Rattle.std.specs.Result.{IsErrAnd}
use Rattle.std.proofs.lemmas.List.Elements.{All-cons, All-nil}
use Rattle.std.proofs.lemmas.List.Splits.{join_with_byte-slice_split, slice_split_none}
use Rattle.volume_model.specs.Common.{Event}
use Rattle.volume_model.specs.declared.fault.Fault.{Fault}
use Rattle.volume_model.specs.declared.fault.Fault.TheVariants.{Malformed, NoMemory}
use Rattle.drivers.specs.Grammar.{change_by, deliver_in, most_blocks, most_ids, most_numbers, most_offsets, offer_in, read_in}
use Rattle.drivers.specs.Grammar.LineAction.{Delivers}
use Rattle.drivers.specs.Parts.{ended, first_number, only_name}
use Rattle.drivers.specs.Reads.{ReadsBy}
use Rattle.drivers.specs.Words.{all_bytes_in, bytes_in, digit_in, fields_in, number_in}

-- the first word spells the number that was taken
record Taken (most : ℕ) (words : List (List ℕ)) (n : ℕ) (later : List (List ℕ)) : Type 0 where
  word : List ℕ
  is : words ≡ word ∷ later
  spells : number_in most word ≡ Some n

-- a number that is there, with the words after it
abbrev number_and : List (List ℕ) → ℕ → ℕ × List (List ℕ)
number_and words n = (n, words)

some_is : {A : Type 0} (x y : A) → Some x ≡ Some y → x ≡ y
some_is x y e = cc

taken : (most : ℕ) (words : List (List ℕ)) (n : ℕ) (later : List (List ℕ)) → first_number most words ≡ Some (n, later) → Taken most words n later
taken most [] n later e = absurd cc
taken most (word ∷ words) n later e = go (number_in most word) refl e
  where
    go : (there : Option ℕ) → number_in most word ≡ there → option_map (number_and words) there ≡ Some (number_and later n) → Taken most (word ∷ words) n later
    go None spells same = absurd cc
    go (Some k) spells same =
        let both = some_is (number_and words k) (number_and later n) same in
        let number : k ≡ n = ap (λ (found : ℕ × List (List ℕ)). found.0) both in
        let rest : words ≡ later = ap (λ (found : ℕ × List (List ℕ)). found.1) both in
        record { word = word; is = rw rest refl; spells = rw number at spells }

-- where none is taken, the first word spells none
untaken : (most : ℕ) (word : List ℕ) (words : List (List ℕ)) → first_number most (word ∷ words) ≡ None → number_in most word ≡ None
untaken most word words e = go (number_in most word) e
  where
    go : (there : Option ℕ) → option_map (number_and words) there ≡ None → there ≡ None
    go None same = refl
    go (Some k) same = absurd cc

-- a fault that is handed on
pub handed : {A B C D : Type 0} (view : A → C) (there : Option C) (outer : B → D) (whole : Option D) (fault : Fault) (result : Result B Fault)
    → (there ≡ None → whole ≡ None) → ReadsBy view there (Err fault) → IsErrAnd result (λ f. f ≡ fault) → ReadsBy outer whole result
handed view there outer whole fault (Ok x) turn e is = absurd is
handed view there outer whole fault (Err f) turn e is = subst (λ f. ReadsBy outer whole (Err f)) (sym is) (go fault e)
  where
    go : (f : Fault) → ReadsBy view there (Err f) → ReadsBy outer whole (Err f)
    go NoMemory e = tt
    go Malformed e = turn e
    go f e = absurd e

-- no word is left
pub none_after : (words : List (List ℕ)) (u : Unit {0}) → ended words ≡ Some u → words ≡ []
none_after [] u e = refl
none_after (word ∷ words) u e = absurd cc

-- a delivery whose words are taken in turn
module _ (earlier group member : ℕ) (words second third : List (List ℕ)) (g : first_number most_ids words ≡ Some (group, second)) (m : first_number most_ids second ≡ Some (member, third)) where
  pub deliver_is : (l p : ℕ) → only_name earlier third ≡ Some (l, p) → deliver_in earlier words ≡ Some (Delivers group member l p)
  deliver_is l p named =
      let one = taken most_ids words group second g in
      let two = taken most_ids second member third m in
      rw (one.is, two.is) (go third named one.word two.word one.spells two.spells)
    where
      go : (left : List (List ℕ)) → only_name earlier left ≡ Some (l, p) → (a b : List ℕ) → number_in most_ids a ≡ Some group → number_in most_ids b ≡ Some member → deliver_in earlier (a ∷ b ∷ left) ≡ Some (Delivers group member l p)
      go [] none a b ea eb = absurd cc
      go (name ∷ []) one a b ea eb = rw (ea, eb, one) refl
      go (name ∷ other ∷ more) none a b ea eb = absurd cc

-- the same of a page's reading
module _ (volume group : ℕ) (words second third : List (List ℕ)) (v : first_number most_blocks words ≡ Some (volume, second)) (g : first_number most_ids second ≡ Some (group, third)) where
  pub read_is : (block : ℕ) (rest : List (List ℕ)) → first_number most_blocks third ≡ Some (block, rest) → rest ≡ [] → read_in words ≡ Some (Event.Read volume group block)
  read_is block rest b last =
      let one = taken most_blocks words volume second v in
      let two = taken most_ids second group third g in
      let three = taken most_blocks third block rest b in
      rw (one.is, two.is, three.is, last, one.spells, two.spells, three.spells) refl

  pub no_read : first_number most_blocks third ≡ None → read_in words ≡ None
  no_read b =
      let one = taken most_blocks words volume second v in
      let two = taken most_ids second group third g in
      rw (one.is, two.is) (go third b one.word two.word one.spells two.spells)
    where
      go : (left : List (List ℕ)) → first_number most_blocks left ≡ None → (a b : List ℕ) → number_in most_blocks a ≡ Some volume → number_in most_ids b ≡ Some group → read_in (a ∷ b ∷ left) ≡ None
      go [] none a b ea eb = refl
      go (c ∷ []) none a b ea eb = rw (ea, eb, untaken most_blocks c [] none) refl
      go (c ∷ d ∷ more) none a b ea eb = refl

-- and of an offer
module _ (group member : ℕ) (words second third : List (List ℕ)) (g : first_number most_ids words ≡ Some (group, second)) (m : first_number most_ids second ≡ Some (member, third)) where
  pub offer_is : (lsn : ℕ) (rest : List (List ℕ)) → first_number most_numbers third ≡ Some (lsn, rest) → rest ≡ [] → offer_in words ≡ Some (Event.Offer group member lsn)
  offer_is lsn rest n last =
      let one = taken most_ids words group second g in
      let two = taken most_ids second member third m in
      let three = taken most_numbers third lsn rest n in
      rw (one.is, two.is, three.is, last, one.spells, two.spells, three.spells) refl

  pub no_offer : first_number most_numbers third ≡ None → offer_in words ≡ None
  no_offer n =
      let one = taken most_ids words group second g in
      let two = taken most_ids second member third m in
      rw (one.is, two.is) (go third n one.word two.word one.spells two.spells)
    where
      go : (left : List (List ℕ)) → first_number most_numbers left ≡ None → (a b : List ℕ) → number_in most_ids a ≡ Some group → number_in most_ids b ≡ Some member → offer_in (a ∷ b ∷ left) ≡ None
      go [] none a b ea eb = refl
      go (c ∷ []) none a b ea eb = rw (ea, eb, untaken most_numbers c [] none) refl
      go (c ∷ d ∷ more) none a b ea eb = refl

-- what holds of each digit holds of all digits of some bytes
pub each_digit : (P : ℕ → Type 0) → ((b value : ℕ) → digit_in b ≡ Some value → P b) → (word hex : List ℕ) → all_bytes_in word ≡ Some hex → All P word
each_digit P holds [] hex e = All-nil P
each_digit P holds (high ∷ []) hex e = absurd cc
each_digit P holds (high ∷ low ∷ more) hex e = go (digit_in high) (digit_in low) (all_bytes_in more) refl refl refl (λ later em. each_digit P holds more later em)
  where
    go : (h l : Option ℕ) (later : Option (List ℕ)) → digit_in high ≡ h → digit_in low ≡ l → all_bytes_in more ≡ later → ((found : List ℕ) → all_bytes_in more ≡ Some found → All P more) → All P (high ∷ low ∷ more)
    go None l later eh el em rest = absurd (let none : all_bytes_in (high ∷ low ∷ more) ≡ None = rw eh refl in let bad : None ≡ Some hex = sym none ∙ e in cc)
    go (Some h) None later eh el em rest = absurd (let none : all_bytes_in (high ∷ low ∷ more) ≡ None = rw (eh, el) refl in let bad : None ≡ Some hex = sym none ∙ e in cc)
    go (Some h) (Some l) None eh el em rest = absurd (let none : all_bytes_in (high ∷ low ∷ more) ≡ None = rw (eh, el, em) refl in let bad : None ≡ Some hex = sym none ∙ e in cc)
    go (Some h) (Some l) (Some later) eh el em rest = All-cons P high (low ∷ more) (holds high h eh) (All-cons P low more (holds low l el) (rest later em))

-- digits are other bytes than one that is none
pub other_digits : (c : ℕ) → digit_in c ≡ None → (word hex : List ℕ) → all_bytes_in word ≡ Some hex → All (λ b. eqb b c ≡ false) word
other_digits c none word hex e = each_digit (λ b. eqb b c ≡ false) other word hex e
  where
    other : (b value : ℕ) → digit_in b ≡ Some value → eqb b c ≡ false
    other b value is = ne_eqb b c (λ same. let bad : None ≡ Some value = sym none ∙ (sym (ap digit_in same) ∙ is) in absurd cc)

-- what 1 to 64 bytes spell is what all of them spell
pub all_spelled : (bytes hex : List ℕ) → bytes_in bytes ≡ Some hex → all_bytes_in bytes ≡ Some hex
all_spelled bytes hex e = go (leb 1 (length bytes) && leb (length bytes) 128) refl
  where
    go : (b : Bool) → (leb 1 (length bytes) && leb (length bytes) 128) ≡ b → all_bytes_in bytes ≡ Some hex
    go true sized = ap (λ b. if b then all_bytes_in bytes else None) (sym sized) ∙ e
    go false sized = absurd (let none : bytes_in bytes ≡ None = rw sized refl in let bad : None ≡ Some hex = sym none ∙ e in cc)

-- and of a change, whose bytes have no separator
pub alone : (bytes hex : List ℕ) → bytes_in bytes ≡ Some hex → fields_in bytes ≡ bytes ∷ []
alone bytes hex e = slice_split_none (λ b. eqb b 58) bytes (other_digits 58 refl bytes hex (all_spelled bytes hex e))

module _ (group block offset : ℕ) (bytes : List ℕ) (fields second third : List (List ℕ)) (g : first_number most_ids fields ≡ Some (group, second)) (b : first_number most_blocks second ≡ Some (block, third))
    (o : first_number most_offsets third ≡ Some (offset, fields_in bytes)) where
  pub change_is : (hex : List ℕ) → bytes_in bytes ≡ Some hex → change_by fields ≡ Some (record { group = group; block = block; offset = offset; bytes = hex })
  change_is hex spelled =
      let one = taken most_ids fields group second g in
      let two = taken most_blocks second block third b in
      let three = taken most_offsets third offset (fields_in bytes) o in
      rw (one.is, two.is, three.is, alone bytes hex spelled, one.spells, two.spells, three.spells, spelled) refl

  pub no_change : bytes_in bytes ≡ None → change_by fields ≡ None
  no_change spelled =
      let one = taken most_ids fields group second g in
      let two = taken most_blocks second block third b in
      let three = taken most_offsets third offset (fields_in bytes) o in
      rw (one.is, two.is, three.is) (go (fields_in bytes) refl one.word two.word three.word one.spells two.spells three.spells)
    where
      go : (left : List (List ℕ)) → fields_in bytes ≡ left → (x y z : List ℕ) → number_in most_ids x ≡ Some group → number_in most_blocks y ≡ Some block → number_in most_offsets z ≡ Some offset → change_by (x ∷ y ∷ z ∷ left) ≡ None
      go [] is x y z ex ey ez = refl
      go (w ∷ []) is x y z ex ey ez =
          let same : w ≡ bytes = ap (join_with_byte 58) (sym is) ∙ join_with_byte-slice_split 58 bytes in
          rw (same, ex, ey, ez, spelled) refl
      go (w ∷ v ∷ more) is x y z ex ey ez = refl
