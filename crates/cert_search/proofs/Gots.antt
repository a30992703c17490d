-- What stands in the views of one deque.
use Rattle.std.proofs.Common.{◌≡◌, ◌≢◌, ⊎_elim, ℕ, zero, suc, ◌+◌, ◌-◌, ◌<◌, ◌==◌, List, [], ◌∷◌, ◌++◌, map, length, Bool, Some, refl, sym, ap, ◌∙◌, append_assoc, append-nil, eq-eqb, ne_eqb, arith, true, false, ◌||◌, slice_get, if◌then◌else◌}
use mathlib.Core.Option.{some, some-ne-none}
use mathlib.Core.Logic.{dite}
use native.Mathlib.Decide.{ℕ_discrete}
use lib.ListN.{get_elem?}
use Rattle.atomic_table.proofs.Lists.{at_longer}
use Rattle.cert_search.specs.declared.deque.DequeView.{DequeView}
use Rattle.cert_search.specs.declared.hand.Hand.{Hand}
use Rattle.cert_search.specs.declared.deque.Holder.{Holder}
use Rattle.cert_search.specs.declared.deque.Holder.TheVariants.{Owner, Guest, Nobody}
use Rattle.cert_search.specs.Deque.{both_views, regain, is_owner, out_of}
use Rattle.cert_search.specs.NamedViews.{NamedView, look}
use Rattle.cert_search.specs.Settled.{others_of, all_others, taken_back}
use Rattle.cert_search.proofs.Claims.{at_behind, at_either}

-- lists on end
abbrev pub flat : List (List ℕ) → List ℕ
flat [] = []
flat (l ∷ ls) = l ++ flat ls

-- the place of the k-th element of the i-th list
abbrev pub place : List (List ℕ) → ℕ → ℕ → ℕ
place [] i k = 0
place (l ∷ ls) zero k = k
place (l ∷ ls) (suc i) k = length l + place ls i k

pub flat_at : (ls : List (List ℕ)) (i k c : ℕ) (l : List ℕ) → slice_get ls i ≡ Some l → get_elem? l k ≡ some c → get_elem? (flat ls) (place ls i k) ≡ some c
flat_at [] i k c l e f = absurd (cc (e))
flat_at (x ∷ xs) zero k c l e f = let is : x ≡ l = cc (e) in at_longer x (flat xs) k c (ap (λ m. get_elem? m k) is ∙ f)
flat_at (x ∷ xs) (suc i) k c l e f = at_behind x (flat xs) (place xs i k) c (flat_at xs i k c l e f)

-- two places are two elements
pub place_apart : (ls : List (List ℕ)) (i k j m : ℕ) (l l' : List ℕ) → slice_get ls i ≡ Some l → slice_get ls j ≡ Some l' → k < length l → m < length l' → place ls i k ≡ place ls j m → (i ≡ j) × (k ≡ m)
place_apart [] i k j m l l' e f lt lt' same = absurd (cc (e))
place_apart (x ∷ xs) zero k zero m l l' e f lt lt' same = (refl, same)
place_apart (x ∷ xs) zero k (suc j) m l l' e f lt lt' same = let is : x ≡ l = cc (e) in absurd (omega (arith, same, lt, ap length is))
place_apart (x ∷ xs) (suc i) k zero m l l' e f lt lt' same = let is : x ≡ l' = cc (f) in absurd (omega (arith, same, lt', ap length is))
place_apart (x ∷ xs) (suc i) k (suc j) m l l' e f lt lt' same = let t = place_apart xs i k j m l l' e f lt lt' (omega (arith, same)) in (ap suc t.0, t.1)

-- each element has a place
pub flat_from : (ls : List (List ℕ)) (p c : ℕ) → get_elem? (flat ls) p ≡ some c → (i : ℕ) × (k : ℕ) × (l : List ℕ) × (slice_get ls i ≡ Some l) × (get_elem? l k ≡ some c)
flat_from [] p c e = absurd (some-ne-none c (sym e))
flat_from (x ∷ xs) p c e =
    ⊎_elim
    (λ (here : get_elem? x p ≡ some c). (0, p, x, refl, here))
    (λ (there : (k : ℕ) × (p ≡ length x + k) × (get_elem? (flat xs) k ≡ some c)). let t = flat_from xs there.0 c there.2 in (suc t.0, t.1, t.2, t.3, t.4))
    (at_either x (flat xs) p c e)

-- what has been had of the deque d, by one view and by all
abbrev pub part_of : ℕ → NamedView → List ℕ
part_of d s = if s.0 == d then s.1.got else []

abbrev pub gots : ℕ → List NamedView → List ℕ
gots d [] = []
gots d (s ∷ ss) = part_of d s ++ gots d ss

gots_append : (d : ℕ) (ss ts : List NamedView) → gots d (ss ++ ts) ≡ gots d ss ++ gots d ts
gots_append d [] ts = refl
gots_append d (s ∷ ss) ts = ap (λ l. part_of d s ++ l) (gots_append d ss ts) ∙ sym (append_assoc (part_of d s) (gots d ss) (gots d ts))

-- of all hands, each after the other
pub gots_each : (d : ℕ) (hands : List Hand) → gots d (all_others hands) ≡ flat (map (λ h. gots d (others_of h)) hands)
gots_each d [] = refl
gots_each d (h ∷ hs) = gots_append d (others_of h) (all_others hs) ∙ ap (λ l. gots d (others_of h) ++ l) (gots_each d hs)

-- where no view is of the deque
pub gots_none : (d : ℕ) (ss : List NamedView) → ((k : ℕ) (s : NamedView) → slice_get ss k ≡ Some s → s.0 ≢ d) → gots d ss ≡ []
gots_none d [] none = refl
gots_none d (s ∷ ss) none =
    ap (λ (b : Bool). (if b then s.1.got else []) ++ gots d ss) (ne_eqb s.0 d (none 0 s refl)) ∙ gots_none d ss (λ k t e. none (suc k) t e)

-- where one is, at most
pub gots_one : (d : ℕ) (ss : List NamedView) → ((j k : ℕ) (s t : NamedView) → slice_get ss j ≡ Some s → slice_get ss k ≡ Some t → s.0 ≡ d → t.0 ≡ d → j ≡ k) → gots d ss ≡ (look d ss).got
gots_one d [] only = refl
gots_one d (s ∷ ss) only =
    dite (ℕ_discrete s.0 d)
    (λ (is : s.0 ≡ d).
    ap (λ (b : Bool). (if b then s.1.got else []) ++ gots d ss) (eq-eqb s.0 d is)
    ∙ ap (λ l. s.1.got ++ l) (gots_none d ss (λ k t e same. let f = only 0 (suc k) s t refl e is same in omega (arith, f))) ∙ append-nil s.1.got
    ∙ ap (λ (b : Bool). (if b then s.1 else look d ss).got) (sym (eq-eqb s.0 d is)))
    (λ (apart : s.0 ≢ d).
    ap (λ (b : Bool). (if b then s.1.got else []) ++ gots d ss) (ne_eqb s.0 d apart)
    ∙ gots_one d ss (λ j k t u e f is is'. let g = only (suc j) (suc k) t u e f is is' in omega (arith, g))
    ∙ ap (λ (b : Bool). (if b then s.1 else look d ss).got) (sym (ne_eqb s.0 d apart)))

-- one step of taking back
step_here : (d : ℕ) (v : DequeView) (s : NamedView) → s.0 ≡ d → (if s.0 == d then both_views v s.1 else v) ≡ both_views v s.1
step_here d v s is = ap (λ (b : Bool). if b then both_views v s.1 else v) (eq-eqb s.0 d is)

step_else : (d : ℕ) (v : DequeView) (s : NamedView) → s.0 ≢ d → (if s.0 == d then both_views v s.1 else v) ≡ v
step_else d v s apart = ap (λ (b : Bool). if b then both_views v s.1 else v) (ne_eqb s.0 d apart)

pub taken_here : (d : ℕ) (v : DequeView) (s : NamedView) (ss : List NamedView) → s.0 ≡ d → taken_back d v (s ∷ ss) ≡ taken_back d (both_views v s.1) ss
taken_here d v s ss is = ap (λ u. taken_back d u ss) (step_here d v s is)

pub taken_else : (d : ℕ) (v : DequeView) (s : NamedView) (ss : List NamedView) → s.0 ≢ d → taken_back d v (s ∷ ss) ≡ taken_back d v ss
taken_else d v s ss apart = ap (λ u. taken_back d u ss) (step_else d v s apart)

-- what has been had, once the views are taken back
pub taken_got : (d : ℕ) (v : DequeView) (ss : List NamedView) → (taken_back d v ss).got ≡ v.got ++ gots d ss
taken_got d v [] = sym (append-nil v.got)
taken_got d v (s ∷ ss) =
    dite (ℕ_discrete s.0 d)
    (λ (is : s.0 ≡ d).
    ap (λ (u : DequeView). u.got) (taken_here d v s ss is) ∙ taken_got d (both_views v s.1) ss ∙ append_assoc v.got s.1.got (gots d ss)
    ∙ ap (λ (b : Bool). v.got ++ ((if b then s.1.got else []) ++ gots d ss)) (sym (eq-eqb s.0 d is)))
    (λ (apart : s.0 ≢ d).
    ap (λ (u : DequeView). u.got) (taken_else d v s ss apart) ∙ taken_got d v ss
    ∙ ap (λ (b : Bool). v.got ++ ((if b then s.1.got else []) ++ gots d ss)) (sym (ne_eqb s.0 d apart)))

pub taken_dealt : (d : ℕ) (v : DequeView) (ss : List NamedView) → (taken_back d v ss).dealt ≡ v.dealt
taken_dealt d v [] = refl
taken_dealt d v (s ∷ ss) =
    dite (ℕ_discrete s.0 d)
    (λ (is : s.0 ≡ d). ap (λ (u : DequeView). u.dealt) (taken_here d v s ss is) ∙ taken_dealt d (both_views v s.1) ss)
    (λ (apart : s.0 ≢ d). ap (λ (u : DequeView). u.dealt) (taken_else d v s ss apart) ∙ taken_dealt d v ss)

-- the holder stays the worker, with one view less for each that was taken back
abbrev pub tally : ℕ → List NamedView → ℕ
tally d [] = 0
tally d (s ∷ ss) = (if s.0 == d then 1 else 0) + tally d ss

pub tally_append : (d : ℕ) (ss ts : List NamedView) → tally d (ss ++ ts) ≡ tally d ss + tally d ts
tally_append d [] ts = omega arith
tally_append d (s ∷ ss) ts = let more = tally_append d ss ts in omega (arith, more)

tally_here : (d : ℕ) (s : NamedView) (ss : List NamedView) → s.0 ≡ d → tally d (s ∷ ss) ≡ 1 + tally d ss
tally_here d s ss is = ap (λ (b : Bool). (if b then 1 else 0) + tally d ss) (eq-eqb s.0 d is)

tally_else : (d : ℕ) (s : NamedView) (ss : List NamedView) → s.0 ≢ d → tally d (s ∷ ss) ≡ tally d ss
tally_else d s ss apart = let e = ap (λ (b : Bool). (if b then 1 else 0) + tally d ss) (ne_eqb s.0 d apart) in omega (arith, e)

pub tally_none : (d : ℕ) (ss : List NamedView) → ((k : ℕ) (s : NamedView) → slice_get ss k ≡ Some s → s.0 ≢ d) → tally d ss ≡ 0
tally_none d [] none = refl
tally_none d (s ∷ ss) none = tally_else d s ss (none 0 s refl) ∙ tally_none d ss (λ k t e. none (suc k) t e)

pub tally_one : (d : ℕ) (ss : List NamedView) (k : ℕ) (s : NamedView) → slice_get ss k ≡ Some s → s.0 ≡ d → ((j : ℕ) (t : NamedView) → slice_get ss j ≡ Some t → t.0 ≡ d → j ≡ k) → tally d ss ≡ 1
tally_one d [] k s e is only = absurd (cc (e))
tally_one d (x ∷ xs) zero s e is only =
    let same : x ≡ s = cc (e) in
    let none = tally_none d xs (λ j t f g. let h = only (suc j) t f g in omega (arith, h)) in
    let here = tally_here d x xs (ap (λ (y : NamedView). y.0) same ∙ is) in omega (arith, here, none)
tally_one d (x ∷ xs) (suc k) s e is only =
    tally_else d x xs (λ f. let h = only 0 x refl f in omega (arith, h)) ∙ tally_one d xs k s e is (λ j t f g. let h = only (suc j) t f g in omega (arith, h))

regain_out : (h : Holder) → out_of (regain h) ≡ out_of h - 1
regain_out (Owner zero) = refl
regain_out (Owner (suc out)) = omega arith
regain_out Guest = refl
regain_out Nobody = refl

regain_owner : (h : Holder) → is_owner h ≡ true → is_owner (regain h) ≡ true
regain_owner (Owner zero) e = refl
regain_owner (Owner (suc out)) e = refl
regain_owner Guest e = e
regain_owner Nobody e = e

pub taken_out : (d : ℕ) (v : DequeView) (ss : List NamedView) → out_of (taken_back d v ss).holder ≡ out_of v.holder - tally d ss
taken_out d v [] = omega arith
taken_out d v (s ∷ ss) =
    dite (ℕ_discrete s.0 d)
    (λ (is : s.0 ≡ d).
    let step = ap (λ (u : DequeView). out_of u.holder) (taken_here d v s ss is) in
    let more = taken_out d (both_views v s.1) ss in
    let less = regain_out v.holder in
    let one = tally_here d s ss is in
    step ∙ more ∙ ap (λ n. n - tally d ss) less ∙ (let e : out_of v.holder - 1 - tally d ss ≡ out_of v.holder - (1 + tally d ss) = omega arith in e) ∙ ap (λ n. out_of v.holder - n) (sym one))
    (λ (apart : s.0 ≢ d). ap (λ (u : DequeView). out_of u.holder) (taken_else d v s ss apart) ∙ taken_out d v ss ∙ ap (λ n. out_of v.holder - n) (sym (tally_else d s ss apart)))

pub taken_owner : (d : ℕ) (v : DequeView) (ss : List NamedView) → is_owner v.holder ≡ true → is_owner (taken_back d v ss).holder ≡ true
taken_owner d v [] owner = owner
taken_owner d v (s ∷ ss) owner =
    dite (ℕ_discrete s.0 d)
    (λ (is : s.0 ≡ d). ap (λ (u : DequeView). is_owner u.holder) (taken_here d v s ss is) ∙ taken_owner d (both_views v s.1) ss (regain_owner v.holder owner))
    (λ (apart : s.0 ≢ d). ap (λ (u : DequeView). is_owner u.holder) (taken_else d v s ss apart) ∙ taken_owner d v ss owner)

either_left : (a b : Bool) → a ≡ true → (a || b) ≡ true
either_left a b e = ap (λ c. c || b) e

either_right : (a b : Bool) → b ≡ true → (a || b) ≡ true
either_right true b e = refl
either_right false b e = e

-- where somebody has had a mark of the end, the worker has
pub taken_end : (d : ℕ) (v : DequeView) (ss : List NamedView) → v.ended ≡ true → (taken_back d v ss).ended ≡ true
taken_end d v [] ended = ended
taken_end d v (s ∷ ss) ended =
    dite (ℕ_discrete s.0 d)
    (λ (is : s.0 ≡ d). ap (λ (u : DequeView). u.ended) (taken_here d v s ss is) ∙ taken_end d (both_views v s.1) ss (either_left v.ended s.1.ended ended))
    (λ (apart : s.0 ≢ d). ap (λ (u : DequeView). u.ended) (taken_else d v s ss apart) ∙ taken_end d v ss ended)

pub taken_end_at : (d : ℕ) (v : DequeView) (ss : List NamedView) (k : ℕ) (s : NamedView) → slice_get ss k ≡ Some s → s.0 ≡ d → s.1.ended ≡ true → (taken_back d v ss).ended ≡ true
taken_end_at d v [] k s e is ended = absurd (cc (e))
taken_end_at d v (x ∷ xs) zero s e is ended =
    let same : x ≡ s = cc (e) in
    ap (λ (u : DequeView). u.ended) (taken_here d v x xs (ap (λ (y : NamedView). y.0) same ∙ is)) ∙ taken_end d (both_views v x.1) xs (either_right v.ended x.1.ended (ap (λ (y : NamedView). y.1.ended) same ∙ ended))
taken_end_at d v (x ∷ xs) (suc k) s e is ended =
    dite (ℕ_discrete x.0 d)
    (λ (here : x.0 ≡ d). ap (λ (u : DequeView). u.ended) (taken_here d v x xs here) ∙ taken_end_at d (both_views v x.1) xs k s e is ended)
    (λ (apart : x.0 ≢ d). ap (λ (u : DequeView). u.ended) (taken_else d v x xs apart) ∙ taken_end_at d v xs k s e is ended)
