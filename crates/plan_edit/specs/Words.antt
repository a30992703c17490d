-- The members and the weights that a text names.
use Rattle.std.specs.Prelude.{◌≡◌, ◌≢◌, ◌<◌, ◌≤◌, ◌⊎◌, ℕ, List, Bool, true, length, get_or, ◌==◌}
use Rattle.std.specs.List.{position_or_len, before_first, after_first}
use Rattle.std.specs.Ordering.{nat_cmp}
use Rattle.std.specs.FinSet.{FinSet, contains}
use Rattle.std.specs.Str.Parse.{IsNumeral, digits_value, without_leading_plus}

-- the text is this number
abbrev pub IsSpelled : List ℕ → ℕ → Type 0
IsSpelled text n = IsNumeral 10 (without_leading_plus text) × (n ≡ digits_value 10 (without_leading_plus text))

abbrev pub is_comma : ℕ → Bool
is_comma b = b == 44

abbrev pub is_dash : ℕ → Bool
is_dash b = b == 45

-- the first and the last number of a word: of a number, or of two with a dash between them
pub data IsSpan (word : List ℕ) (first last : ℕ) : Type 0 where
  number : position_or_len is_dash word ≡ length word → IsSpelled word first → last ≡ first
      → IsSpan word first last
  range : position_or_len is_dash word < length word → IsSpelled (before_first is_dash word) first
      → IsSpelled (after_first is_dash word) last → IsSpan word first last

-- the word names the member
pub record IsWithin (word : List ℕ) (member : ℕ) : Type 0 where
  pub first : ℕ
  pub last : ℕ
  pub span : IsSpan word first last
  pub least : first ≤ member
  pub most : member ≤ last

-- The text names the member: its first word does, or the text behind its first comma.
pub data Names : List ℕ → ℕ → Type 0 where
  first_word : (text : List ℕ) (member : ℕ) → IsWithin (before_first is_comma text) member → Names text member
  later_word : (text : List ℕ) (member : ℕ) → position_or_len is_comma text < length text
      → Names (after_first is_comma text) member → Names text member

-- the members of the set are those that the text names
pub record AreNamed (text : List ℕ) (set : FinSet nat_cmp) : Type 0 where
  pub all : (member : ℕ) → Names text member → contains set member ≡ true
  pub only : (member : ℕ) → contains set member ≡ true → Names text member

-- the members of the new set are those of the old one and those that the word names
pub record AddsNamed (word : List ℕ) (old new : FinSet nat_cmp) : Type 0 where
  pub kept : (member : ℕ) → contains old member ≡ true → contains new member ≡ true
  pub all : (member : ℕ) → IsWithin word member → contains new member ≡ true
  pub only : (member : ℕ) → contains new member ≡ true → (contains old member ≡ true) ⊎ IsWithin word member

-- the members of the new set are those of the old one and those that the text names
pub record AddsText (text : List ℕ) (old new : FinSet nat_cmp) : Type 0 where
  pub kept : (member : ℕ) → contains old member ≡ true → contains new member ≡ true
  pub all : (member : ℕ) → Names text member → contains new member ≡ true
  pub only : (member : ℕ) → contains new member ≡ true → (contains old member ≡ true) ⊎ Names text member

abbrev pub is_equals : ℕ → Bool
is_equals b = b == 61

-- the word gives a member a weight, such as `0=2`
pub record IsPair (word : List ℕ) (member weight : ℕ) : Type 0 where
  pub within : position_or_len is_equals word < length word
  pub front : IsSpelled (before_first is_equals word) member
  pub back : IsSpelled (after_first is_equals word) weight

-- The text gives the member this weight: its first word does, or the text behind its first comma.
pub data Weighs : List ℕ → ℕ → ℕ → Type 0 where
  first_pair : (text : List ℕ) (member weight : ℕ) → IsPair (before_first is_comma text) member weight
      → Weighs text member weight
  later_pair : (text : List ℕ) (member weight : ℕ) → position_or_len is_comma text < length text
      → Weighs (after_first is_comma text) member weight → Weighs text member weight

-- The weights are those that the text gives. A member to which it gives none weighs 1.
pub record AreWeights (text weights : List ℕ) : Type 0 where
  pub all : (member weight : ℕ) → Weighs text member weight → get_or weights member 1 ≡ weight
  pub only : (member : ℕ) → (get_or weights member 1 ≡ 1) ⊎ Weighs text member (get_or weights member 1)

-- The new weights are the old ones and one more, which the word gives to a member that had none.
pub record AddsPair (word : List ℕ) (old : FinSet nat_cmp) (before : List ℕ) (new : FinSet nat_cmp) (after : List ℕ)
    : Type 0 where
  pub member : ℕ
  pub weight : ℕ
  pub pair : IsPair word member weight
  pub was : contains old member ≡ true → ⊥
  pub has : contains new member ≡ true
  pub keeps : (other : ℕ) → contains old other ≡ true → contains new other ≡ true
  pub is : get_or after member 1 ≡ weight
  pub others : (other : ℕ) → other ≢ member → get_or after other 1 ≡ get_or before other 1

-- The new weights are the old ones and those that the text gives to members that had none.
pub record AddsWeights (text : List ℕ) (old : FinSet nat_cmp) (before after : List ℕ) : Type 0 where
  pub kept : (member : ℕ) → contains old member ≡ true → get_or after member 1 ≡ get_or before member 1
  pub all : (member weight : ℕ) → Weighs text member weight → get_or after member 1 ≡ weight
  pub only : (member : ℕ) → (get_or after member 1 ≡ get_or before member 1)
      ⊎ Weighs text member (get_or after member 1)
