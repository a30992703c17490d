-- The number that an option spells.
use Rattle.std.proofs.Common.{◌≡◌, ◌<◌, ◌^◌, ℕ, List, Option, Some, None, Result, Ok, Err, refl}
use Rattle.std.specs.Str.Parse.{ParsesUnsigned}
use Rattle.clap.specs.Matches.{TriesOne}
use Rattle.commands.specs.Jobs.{IsGiven, IsNoNumber, IsNumberIn, IsNumberOr}

-- what a read of a text gives, where there is one
pub record IsRead {E : Type 0} (gives : List ℕ → Result ℕ E → Type 0) (o : Option (List ℕ)) (r : Result (Option ℕ) E) : Type 0 where
  pub none : o ≡ None → r ≡ Ok None
  pub value : (t : List ℕ) → o ≡ Some t → TriesOne gives t r
  pub only : (t : List ℕ) (x : Result ℕ E) → gives t x → ParsesUnsigned 8 10 t x

-- the number that was read, or that there is none
pub is_given : {E : Type 0} (gives : List ℕ → Result ℕ E → Type 0) (o : Option (List ℕ)) (x : Option ℕ) → IsRead gives o (Ok x) → IsGiven o x
is_given gives None None h = refl
is_given gives (Some t) None h = absurd (h.value t refl)
is_given gives None (Some n) h = let bad = h.none refl in cc
is_given gives (Some t) (Some n) h = let got = h.only t (Ok n) (h.value t refl) in (got.0.0, got.1)

-- a text that can't be read spells none
pub is_no_number : {E : Type 0} (gives : List ℕ → Result ℕ E → Type 0) (o : Option (List ℕ)) (e : E) → IsRead gives o (Err e) → IsNoNumber o
is_no_number gives None e h = let bad = h.none refl in cc
is_no_number gives (Some t) e h = λ n small is. h.only t (Err e) (h.value t refl) (is.0, rw (← is.1) small)

-- the number of an option, or the other one
pub number_given : (other n : ℕ) (o : Option (List ℕ)) → IsNumberIn o n → IsNumberOr other o n
number_given other n None h = absurd h
number_given other n (Some t) h = h

pub other_given : (other : ℕ) (o : Option (List ℕ)) → IsGiven o None → IsNumberOr other o other
other_given other None h = refl
other_given other (Some t) h = absurd cc

-- what isn't a number is none
pub no_number_or : (other : ℕ) (o : Option (List ℕ)) → IsNoNumber o → (n : ℕ) → n < 2 ^ 8 → IsNumberOr other o n → ⊥
no_number_or other None bad n small is = bad
no_number_or other (Some t) bad n small is = bad n small is

-- where there is no text there is no number in it
pub none_in : (o : Option (List ℕ)) → IsGiven o None → (n : ℕ) → IsNumberIn o n → ⊥
none_in None h n is = is
none_in (Some t) h n is = absurd cc
