-- What the words of a line spell, part by part.
use lib.Utf8.{encode}
use Rattle.std.proofs.Common.{◌≡◌, Bool, false, ◌≢◌, ◌∙◌, ap, sym, subst, ℕ, List, [], ◌∷◌, ◌++◌, Option, Some, None, find, option_map, refl}
use Rattle.std.specs.Str.{IsUtf8, bytes_eq}
use Rattle.std.proofs.lemmas.Bool.{false_from_ne_true}
use Rattle.std.proofs.lemmas.List.{append_assoc, map-append}
use Rattle.std.proofs.lemmas.Slice.Eq.{bytes_eq-Decides}
use Rattle.volume_model.specs.ClientWriter as model
use Rattle.writer_core.specs.Changes.{change_of, changes_of}
use Rattle.writer_core.specs.declared.change.Change.{Change}
use Rattle.drivers.specs.Grammar.{change_by, changes_in, name_of, verb_in, verbs}
use Rattle.drivers.specs.Words.{fields_in}
use Rattle.drivers.specs.declared.line.Verb.{Verb}
use Rattle.drivers.specs.declared.line.Verb.TheVariants as verb

after_change : (items : List Change) (c : Change) (there : Option (List model.Change))
    → option_map (λ more. changes_of items ++ more) (option_map (λ later. change_of c ∷ later) there) ≡ option_map (λ more. changes_of (items ++ c ∷ []) ++ more) there
after_change items c None = refl
after_change items c (Some more) = ap Some (sym (append_assoc (changes_of items) (change_of c ∷ []) more) ∙ ap (λ l. l ++ more) (sym (map-append change_of items (c ∷ []))))

-- one change more
pub changes_more : (all : Option (List model.Change)) (words later : List (List ℕ)) (word : List ℕ) (items new : List Change) (c : Change)
    → all ≡ option_map (λ more. changes_of items ++ more) (changes_in words) → words ≡ word ∷ later
    → change_by (fields_in word) ≡ Some (change_of c) → new ≡ items ++ c ∷ [] → all ≡ option_map (λ more. changes_of new ++ more) (changes_in later)
changes_more all words later word items new c before front change is_new = rw (is_new, before, front, change) (after_change items c (changes_in later))

-- another word is not this one
pub other_word : (name word : List ℕ) → word ≢ name → bytes_eq name word ≡ false
other_word name word other = false_from_ne_true (bytes_eq name word) (λ same. other (sym ((bytes_eq-Decides name word).0 same)))

-- where a test fails everywhere nothing is found
found_nowhere : {A : Type 0} (p : A → Bool) → ((x : A) → p x ≡ false) → (xs : List A) → find p xs ≡ None
found_nowhere p fails [] = refl
found_nowhere p fails (x ∷ xs) = rw (fails x) (found_nowhere p fails xs)

-- the name of a verb is a text
text_name : (v : Verb) → IsUtf8 (name_of v)
unfolding encode
text_name verb.Assign = (name_of verb.Assign, (refl, refl))
text_name verb.Grow = (name_of verb.Grow, (refl, refl))
text_name v = (name_of v, (refl, refl))

-- what is no text is no verb
pub no_verb : (word : List ℕ) → ¬ (IsUtf8 word) → verb_in word ≡ None
no_verb word bad = found_nowhere (λ v. bytes_eq (name_of v) word) (λ v. other_word (name_of v) word (λ same. bad (subst IsUtf8 (sym same) (text_name v)))) verbs
