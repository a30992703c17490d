-- One node changes, and no other.
use Rattle.std.proofs.Common.{◌≡◌, ◌≢◌, ℕ, zero, suc, ◌<◌, Bool, true, false, nat_lt, if◌then◌else◌, List, [], ◌∷◌, Option, Some, None, length, set, refl, ap, ◌∙◌, arith, inl, inr, get_or, ◌/◌, ◌%◌, ◌++◌, map, option_map, subst, slice_get, ltb-true}
use Rattle.segment_core.specs.declared.segment.Segment.{Segment}
use Rattle.segment_core.specs.Segment.{node_of}
use Rattle.world.specs.Homes.{nodes_of}
use Rattle.std.proofs.lemmas.Bool.{cases_eq, eq-eqb, ne_eqb, lt-ltb}
use Rattle.volume_model.specs.Common.{put, put_at, Plan, born_node}
use Rattle.volume_model.specs.Node.{Node}
use Rattle.volume_model.specs.Client.{Client}
use Rattle.world.specs.Slots.{slot_of, in_slot, node_or, node_at}
use Rattle.std.proofs.lemmas.Grind.{common_steps}

get-set_same : {A : Type 0} (xs : List A) (i : ℕ) (x : A) → i < length xs → slice_get (set xs i x) i ≡ Some x
get-set_same [] i x h = absurd (omega arith)
get-set_same (y ∷ xs) zero x h = refl
get-set_same (y ∷ xs) (suc i) x h = get-set_same xs i x (omega arith)

get-set_other : {A : Type 0} (xs : List A) (i j : ℕ) (x : A) → i ≢ j → slice_get (set xs i x) j ≡ slice_get xs j
get-set_other [] i j x ne = refl
get-set_other (y ∷ xs) zero zero x ne = absurd (ne refl)
get-set_other (y ∷ xs) zero (suc j) x ne = refl
get-set_other (y ∷ xs) (suc i) zero x ne = refl
get-set_other (y ∷ xs) (suc i) (suc j) x ne = get-set_other xs i j x (λ e. ne (ap suc e))

other_slot : (g m h y : ℕ) → m < 64 → y < 64 → slot_of g m ≡ slot_of h y → (h ≡ g) × (y ≡ m)
other_slot g m h y a b e = (omega arith, omega arith)

node_at-set_at : (plan : Plan) (slots : List (Option Node)) (g m : ℕ) (n : Node) → m < 64 → slot_of g m < length slots → (h y : ℕ) → node_at plan (set slots (slot_of g m) (Some n)) h y ≡ put_at (node_at plan slots) g m n h y
node_at-set_at plan slots g m n low within h y =
    elim (cases_eq h g) [
      | inl e ↦ elim (cases_eq y m) [
        | inl e' ↦ rw (eq-eqb h g e, eq-eqb y m e') (here h y e e')
        | inr ne ↦ rw (eq-eqb h g e, ne_eqb y m ne) (elsewhere (λ a b. ne b))
      ]
      | inr ne ↦ rw (ne_eqb h g ne) (elsewhere (λ a b. ne a))
    ]
  where
    after : List (Option Node)
    after = set slots (slot_of g m) (Some n)

    here : (h y : ℕ) → h ≡ g → y ≡ m → node_at plan after h y ≡ n
    here h y e e' = grind (arith, common_steps, lt-ltb, Bool, get-set_same, Some)

    elsewhere : (h ≡ g → y ≡ m → ⊥) → node_at plan after h y ≡ node_at plan slots h y
    elsewhere ne = grind (arith, common_steps, Bool, get-set_other, Some, other_slot, ltb-true)

pub node_at-set : (plan : Plan) (slots : List (Option Node)) (g m : ℕ) (n : Node) → m < 64 → slot_of g m < length slots → node_at plan (set slots (slot_of g m) (Some n)) ≡ put_at (node_at plan slots) g m n
node_at-set plan slots g m n low within = λ j h y. node_at-set_at plan slots g m n low within h y j

put_at-same_at : (f : ℕ → ℕ → Node) (g m : ℕ) (h y : ℕ) → put_at f g m (f g m) h y ≡ f h y
put_at-same_at f g m h y = grind (arith, common_steps)

pub put_at-same : (f : ℕ → ℕ → Node) (g m : ℕ) → put_at f g m (f g m) ≡ f
put_at-same f g m = λ j h y. put_at-same_at f g m h y j

-- what a client was already
put-same_at : (f : ℕ → Client) (v w : ℕ) → put f v (f v) w ≡ f w
put-same_at f v w = grind (arith, common_steps)

pub put-same : (f : ℕ → Client) (v : ℕ) → put f v (f v) ≡ f
put-same f v = λ j w. put-same_at f v w j

-- what holds of each element, by its number, and of one more at the end
pub each-push : {A : Type 0} (P : ℕ → A → Type 0) (xs : List A) (x : A) → ((k : ℕ) (y : A) → slice_get xs k ≡ Some y → P k y) → P (length xs) x → (k : ℕ) (y : A) → slice_get (xs ++ x ∷ []) k ≡ Some y → P k y
each-push P [] x all new zero y e = let same : x ≡ y = cc in subst (P 0) same new
each-push P [] x all new (suc k) y e = absurd cc
each-push P (z ∷ xs) x all new zero y e = all zero y e
each-push P (z ∷ xs) x all new (suc k) y e = each-push (λ n. P (suc n)) xs x (λ n w h. all (suc n) w h) new k y e

pub slice_get-map : {A B : Type 0} (f : A → B) (xs : List A) (k : ℕ) → slice_get (map f xs) k ≡ option_map f (slice_get xs k)
slice_get-map f [] k = refl
slice_get-map f (x ∷ xs) zero = refl
slice_get-map f (x ∷ xs) (suc k) = slice_get-map f xs k

-- a segment that was just born is the node that was born
abbrev pub IsNewborn : Plan → ℕ → ℕ → Option Segment → Type 0
IsNewborn plan group member o = node_or (born_node plan group member) (option_map node_of o) ≡ born_node plan group member

pub in_place : (g m : ℕ) → m < 64 → ((slot_of g m / 64) ≡ g) × ((slot_of g m % 64) ≡ m)
in_place g m low = (omega arith, omega arith)

newborn_at : (plan : Plan) (slots : List (Option Segment)) → ((k : ℕ) (o : Option Segment) → slice_get slots k ≡ Some o → IsNewborn plan (k / 64) (k % 64) o) → (g m : ℕ) → node_at plan (nodes_of slots) g m ≡ born_node plan g m
newborn_at plan slots all g m =
    elim (nat_lt m 64) as (λ (b : Bool). nat_lt m 64 ≡ b → (if b then node_or (born_node plan g m) (in_slot (slice_get (nodes_of slots) (slot_of g m))) else born_node plan g m) ≡ born_node plan g m) [
      | true ↦ λ t. ap (λ (s : Option (Option Node)). node_or (born_node plan g m) (in_slot s)) (slice_get-map (option_map node_of) slots (slot_of g m)) ∙ here (ltb-true m 64 t) (slice_get slots (slot_of g m)) refl
      | false ↦ λ t. refl
    ] refl
  where
    here : m < 64 → (found : Option (Option Segment)) → slice_get slots (slot_of g m) ≡ found → node_or (born_node plan g m) (in_slot (option_map (option_map node_of) found)) ≡ born_node plan g m
    here low None e = refl
    here low (Some o) e =
        let p = in_place g m low in
        let h : IsNewborn plan (slot_of g m / 64) (slot_of g m % 64) o = all (slot_of g m) o e in
        subst (λ (n : ℕ). IsNewborn plan n m o) p.0 (subst (λ (n : ℕ). IsNewborn plan (slot_of g m / 64) n o) p.1 h)

pub newborn : (plan : Plan) (slots : List (Option Segment)) → ((k : ℕ) (o : Option Segment) → slice_get slots k ≡ Some o → IsNewborn plan (k / 64) (k % 64) o) → node_at plan (nodes_of slots) ≡ born_node plan
newborn plan slots all = λ j g m. newborn_at plan slots all g m j

-- what holds of each element, by its number, after one was set
pub each-set : {A : Type 0} (P : ℕ → A → Type 0) (xs : List A) (i : ℕ) (x : A) → ((k : ℕ) (y : A) → slice_get xs k ≡ Some y → P k y) → P i x → (k : ℕ) (y : A) → slice_get (set xs i x) k ≡ Some y → P k y
each-set P [] i x all new k y e = absurd cc
each-set P (z ∷ xs) zero x all new zero y e = let same : x ≡ y = cc in subst (P 0) same new
each-set P (z ∷ xs) zero x all new (suc k) y e = all (suc k) y e
each-set P (z ∷ xs) (suc i) x all new zero y e = all zero y e
each-set P (z ∷ xs) (suc i) x all new (suc k) y e = each-set (λ n. P (suc n)) xs i x (λ n w h. all (suc n) w h) new k y e

pub map-set : {A B : Type 0} (f : A → B) (xs : List A) (i : ℕ) (x : A) → map f (set xs i x) ≡ set (map f xs) i (f x)
map-set f [] i x = refl
map-set f (y ∷ xs) zero x = refl
map-set f (y ∷ xs) (suc i) x = ap (λ ys. f y ∷ ys) (map-set f xs i x)

-- what stands there already
pub set-read : {A : Type 0} (xs : List A) (i : ℕ) (x : A) → x ≡ get_or xs i x → i < length xs → set xs i x ≡ xs
set-read [] i x e h = absurd (omega arith)
set-read (y ∷ xs) zero x e h = ap (λ z. z ∷ xs) e
set-read (y ∷ xs) (suc i) x e h = ap (λ zs. y ∷ zs) (set-read xs i x e (omega arith))
