-- What a search says of what was found.
use Rattle.std.proofs.Common.{◌≡◌, ◌∙◌, ap, sym, refl, ℕ, zero, suc, Bool, true, false, List, [], ◌∷◌, Option, Some, None, Result, Ok, Err, option_map, is_none, if◌then◌else◌, map, replicate, arith, IsOkAnd}
use mir.Val.{bool_byte}
use Rattle.std.specs.List.{list_any}
use Rattle.refutation.specs.Common.{Rule}
use Rattle.plan.specs.Common.{PlacedClaim}
use Rattle.cert_search.specs.Answers.{rule_in}
use Rattle.commands.specs.Searched.{PrintsSearch}
use Rattle.commands.specs.Unfound.{found_status, unfound_lines}

-- an Ok has a value
pub ok_and : {X E : Type 0} (r : Result X E) (P : X → Type 0) → IsOkAnd r P → (x : X) × (r ≡ Ok x) × P x
ok_and (Ok x) P h = (x, refl, h)
ok_and (Err e) P h = absurd h

is_none-map : {A B : Type 0} (f : A → B) (o : Option A) → is_none o ≡ is_none (option_map f o)
is_none-map f None = refl
is_none-map f (Some x) = refl

-- a place is empty where it is after a map of what stands there
pub gap-map : {A B : Type 0} (f : A → B) (xs : List (Option A)) → list_any (λ x. is_none x) xs ≡ list_any (λ x. is_none x) (map (option_map f) xs)
gap-map f [] = refl
gap-map f (x ∷ xs) = rw (← is_none-map f x, ← gap-map f xs) refl

-- 1 for a gap
abbrev pub status_by : Bool → ℕ
status_by gap = if gap then 1 else 0

-- a byte made of a bool
pub status-is : (gap : Bool) (byte : ℕ) → byte ≡ bool_byte gap → byte ≡ status_by gap
status-is true byte e = e
status-is false byte e = e

no_one : (gap : Bool) → status_by gap ≡ 0 → gap ≡ false
no_one true e = absurd (omega arith)
no_one false e = refl

-- the status 0 says that no claim is without a rule
pub no_gap : (rules : List (Option Rule)) → found_status rules ≡ 0 → list_any (λ rule. is_none rule) rules ≡ false
no_gap rules e = no_one (list_any (λ rule. is_none rule) rules) e

-- where each claim has a certificate, there is no line
pub all_found : (claims : List PlacedClaim) (rules : List (Option Rule)) → list_any (λ r. is_none r) rules ≡ false → unfound_lines claims rules ≡ []
all_found [] rules h = refl
all_found (c ∷ cs) [] h = refl
all_found (c ∷ cs) (None ∷ rules) h = absurd cc
all_found (c ∷ cs) (Some r ∷ rules) h = all_found cs rules h

-- with the status 0 there is no line
pub is_quiet : (plan : List ℕ) (status : ℕ) (text notes : List ℕ) → PrintsSearch plan status text notes → status ≡ 0 → notes ≡ []
is_quiet plan status text notes reported none = reported.notes_are ∙ all_found reported.claims reported.rules (no_gap reported.rules (sym reported.status_is ∙ none))

-- places without a certificate have no rule
pub none_ruled : (places : ℕ) → map rule_in (replicate places None) ≡ replicate places None
none_ruled zero = refl
none_ruled (suc n) = ap (λ rules. None ∷ rules) (none_ruled n)
