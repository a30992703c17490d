-- The letters of a mailbox and their places.
use Rattle.std.specs.Prelude.{◌≡◌, ℕ, ◌<◌, List, [], ◌∷◌, ◌++◌, map, Option}
use mathlib.Core.Option.{some}
use lib.ListN.{get_elem?}
use Rattle.node_fleet.specs.declared.mailbox.MailStep.{MailStep}
use Rattle.node_fleet.specs.declared.mailbox.MailStep.TheVariants.{Posted, Collected}
use Rattle.node_fleet.specs.Views.{At}
use Rattle.board.specs.Shares.{View, first_of, seats_in, share_of, shares}

-- The letters got were collected, and items are queued; a place is an index of got ++ items.
pub record Keeps (got items : List (Option ℕ)) (views : List (List MailStep)) : Type 0 where
  -- each place has one letter
  pub posted : (p i place : ℕ) (x : Option ℕ) → At views p i (Posted place x) → get_elem? (got ++ items) place ≡ some x
  pub posted_once : (p i q j place : ℕ) (x y : Option ℕ) → At views p i (Posted place x) → At views q j (Posted place y)
      → (p ≡ q) × (i ≡ j)
  pub each_posted : (place : ℕ) (x : Option ℕ) → get_elem? (got ++ items) place ≡ some x → (p : ℕ) × (i : ℕ)
      × At views p i (Posted place x)
  -- a place is collected at most once
  pub collected : (p i place : ℕ) (x : Option ℕ) → At views p i (Collected place x) → get_elem? got place ≡ some x
  pub collected_once : (p i q j place : ℕ) (x y : Option ℕ) → At views p i (Collected place x) → At views q j
      (Collected place y) → (p ≡ q) × (i ≡ j)
  -- each seat collects in the order of places
  pub in_order : (p i j k l : ℕ) (x y : Option ℕ) → i < j → At views p i (Collected k x) → At views p j (Collected l y)
      → k < l

-- the number of all seats, and a view of some of them
abbrev pub Knows : Type 0 → Type 0
Knows A = ℕ × View A

abbrev pub views_in : {A : Type 0} → List (Knows A) → List (View A)
views_in views = map (λ v. v.1) views

-- each view that has a seat knows the number of all seats
abbrev pub KnowAll : {A : Type 0} → ℕ → List (Knows A) → Type 0
KnowAll {A} seats views = (p : ℕ) (v : Knows A) → get_elem? views p ≡ some v → 0 < share_of v.1 → v.0 ≡ seats

-- the views have as many seats together as they know, and the steps of these seats follow the rule
abbrev pub IsMailbox : List (Option ℕ) → List (Knows MailStep) → Type 0
IsMailbox items views = KnowAll (shares (views_in views)) views
    × ((got : List (Option ℕ)) × Keeps got items (seats_in (views_in views)))

-- the steps of exactly these seats follow the rule of a mailbox, for some collected and some queued letters
abbrev pub AreKept : List (List MailStep) → Type 0
AreKept views = (got : List (Option ℕ)) × (items : List (Option ℕ)) × Keeps got items views

-- one more step: the letter was posted at a place
abbrev pub AddsPosted : List MailStep → Option ℕ → List MailStep → Type 0
AddsPosted before letter after = (place : ℕ) × (after ≡ before ++ Posted place letter ∷ [])

-- one more step: the letter was collected from a place above all places from which this seat collected before
abbrev pub AddsCollected : List MailStep → Option ℕ → List MailStep → Type 0
AddsCollected before letter after =
    (place : ℕ) × (after ≡ before ++ Collected place letter ∷ [])
    × ((i k : ℕ) (x : Option ℕ) → get_elem? before i ≡ some (Collected k x) → k < place)

-- a view of one seat has one more step
abbrev pub Adds : Knows MailStep → MailStep → Knows MailStep → Type 0
Adds before step after = after ≡ (before.0, (before.1.0, (first_of before.1.1 ++ step ∷ []) ∷ []))

-- a seat posts the letter
abbrev pub Posts : Knows MailStep → Option ℕ → Knows MailStep → Type 0
Posts before letter after = (place : ℕ) × Adds before (Posted place letter) after

-- a seat collects the letter
abbrev pub Collects : Knows MailStep → Option ℕ → Knows MailStep → Type 0
Collects before letter after =
    (place : ℕ) × Adds before (Collected place letter) after
    × ((i k : ℕ) (x : Option ℕ) → get_elem? (first_of before.1.1) i ≡ some (Collected k x) → k < place)
