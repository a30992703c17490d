-- Groups whose points are raised, and where they stand.
use Rattle.std.proofs.Common.{◌≡◌, ℕ, zero, suc, ◌+◌, ◌-◌, ◌<◌, ◌≤◌, Bool, true, false, List, [], ◌∷◌, ◌++◌, length, drop, take, get_or, ◌⊎◌, inl, inr, refl, sym, ap, ◌∙◌, arith, subst, append-nil, max, map, slice_set, replicate, Result, Ok, Err, OnOk, OnErr, Vec}
use Rattle.std.specs.Vec.{with_items}
use Rattle.std.proofs.lemmas.List.{length-map, length-set, drop_all, map-append, map-set, take-append-drop, with_items_is}
use Rattle.wire.specs.declared.label.Place.{Place}
use Rattle.wire.specs.Message as wire
use Rattle.volume_model.specs.Common.{every_below, place_in, Plan, ClientGroup, no_group, group_of, place_of, newly_at, raised_group, raised_from, with_places, later_group, reread_group, is_later, are_places}
use Rattle.volume_model.specs.Message as model
use Rattle.volume_model.proofs.Basics.{every_below-all}
use Rattle.volume_model.proofs.Groups.{group_of-beyond, length-with_places, group_of-with_places}
use Rattle.volume_model.proofs.Views.{place_in-beyond}
use Rattle.std.proofs.lemmas.Bool.{cases_Bool, cases_lt}
use Rattle.writer_core.proofs.Below.{below-fails, is_place, places-parts}
use Rattle.writer_core.specs.declared.group_state.GroupState.{GroupState}
use Rattle.writer_core.specs.GroupStates.{group_at, groups_of, ArePlaced}
use Rattle.std.proofs.lemmas.Grind.{common_steps}

-- ---- places

-- a group that stays where it stood
pub placed-set : (plan : Plan) (groups : List ClientGroup) (i : ℕ) (g : ClientGroup) → g.place ≡ place_of groups i → ArePlaced plan groups → ArePlaced plan (slice_set groups i g)
placed-set plan groups i g e placed k h = grind (arith, common_steps)

-- ---- the group at hand

pub group-is : (group_states : List GroupState) (i : ℕ) (s : GroupState) → i < length group_states → s ≡ get_or group_states i s → group_of (groups_of group_states) i ≡ group_at s
group-is [] i s h is = absurd (omega arith)
group-is (x ∷ xs) zero s h is = ap group_at (sym is)
group-is (x ∷ xs) (suc i) s h is = group-is xs i s (omega arith) is

-- ---- one point more is raised

pub raised-more : (plan : Plan) (group_states : List GroupState) (i : ℕ) (s t : GroupState) (whole : List ClientGroup) → i < length group_states → s ≡ get_or group_states i s → group_at t ≡ raised_group plan i (group_at s)
    → groups_of (take i group_states) ++ raised_from plan i (groups_of (drop i group_states)) ≡ whole
    → groups_of (take (i + 1) (slice_set group_states i t)) ++ raised_from plan (i + 1) (groups_of (drop (i + 1) (slice_set group_states i t))) ≡ whole
raised-more plan group_states i s t whole h is raised before = grind (arith, common_steps)

-- ---- one group is changed

-- a group that is what it was, in its place
set-same : (group_states : List GroupState) (i : ℕ) (s t : GroupState) → s ≡ get_or group_states i s → group_at t ≡ group_at (get_or group_states i s) → groups_of (slice_set group_states i t) ≡ groups_of group_states
set-same [] i s t is same = refl
set-same (x ∷ xs) zero s t is same = ap (λ g. g ∷ groups_of xs) same
set-same (x ∷ xs) (suc i) s t is same = ap (λ gs. group_at x ∷ gs) (set-same xs i s t is same)

-- what stands in the place of a group that is changed
pub changed : (f : ClientGroup → ClientGroup) (group_states : List GroupState) (i j : ℕ) (s t : GroupState) → i < length group_states → s ≡ get_or group_states i s → i ≡ j → group_at t ≡ f (group_at s)
    → groups_of (slice_set group_states i t) ≡ slice_set (groups_of group_states) j (f (group_of (groups_of group_states) j))
changed f group_states i j s t within is same e = grind (arith, common_steps, map-set, slice_set, group-is)

pub changed-ok : {A B : Type 0} (r : Result A B) (f : ClientGroup → ClientGroup) (group_states : List GroupState) (i j : ℕ) (s t : GroupState) → i < length group_states → s ≡ get_or group_states i s → i ≡ j → OnOk r (group_at t ≡ f (group_at s))
    → OnOk r (groups_of (slice_set group_states i t) ≡ slice_set (groups_of group_states) j (f (group_of (groups_of group_states) j)))
changed-ok (Ok x) f group_states i j s t within is same e = changed f group_states i j s t within is same e
changed-ok (Err x) f group_states i j s t within is same e = e

-- where memory ran out the groups are what they were
pub changed-err : {A B : Type 0} (r : Result A B) (group_states : List GroupState) (i : ℕ) (s t : GroupState) → i < length group_states → s ≡ get_or group_states i s → OnErr r (group_at t ≡ group_at s) → OnErr r (groups_of (slice_set group_states i t) ≡ groups_of group_states)
changed-err (Ok x) group_states i s t within is e = e
changed-err (Err x) group_states i s t within is e = set-same group_states i s t is (e ∙ ap group_at is)

-- a group that stays where it stood
pub changed-placed : (plan : Plan) (group_states : List GroupState) (i : ℕ) (s t : GroupState) → i < length group_states → s ≡ get_or group_states i s → t.place ≡ s.place → ArePlaced plan (groups_of group_states) → ArePlaced plan (groups_of (slice_set group_states i t))
changed-placed plan group_states i s t within is stays placed = grind (arith, common_steps, group-is, map-set, placed-set)

-- no group more
pub changed-within : (most : ℕ) (group_states : List GroupState) (i : ℕ) (t : GroupState) → length group_states ≤ most → length (slice_set group_states i t) ≤ most
changed-within most group_states i t few = subst (λ n. n ≤ most) (sym (length-set group_states i t)) few

-- ---- groups that are taken up

-- one more that stands nowhere yet
pub taken-up : (initial now next : List GroupState) (s : GroupState) → length initial ≤ length now → next ≡ now ++ s ∷ [] → group_at s ≡ no_group
    → groups_of now ≡ groups_of initial ++ replicate (length now - length initial) no_group → groups_of next ≡ groups_of initial ++ replicate (length next - length initial) no_group
taken-up initial now next s within is none before = grind (arith, common_steps)

-- ---- whole read sets and write sets

-- one group that fails, so that not all pass
pub group-fails : (test : Plan → ℕ → ClientGroup → Bool) (plan checked : Plan) (group_states items : List GroupState) (i : ℕ) (s : GroupState) (passes : Bool) → items ≡ group_states → checked ≡ plan → i < length items → s ≡ get_or items i s
    → passes ≡ test checked i (group_at s) → passes ≡ false → false ≡ every_below (length (groups_of group_states)) (λ g. test plan g (group_of (groups_of group_states) g))
group-fails test plan checked group_states items i s passes all same h is e fails =
    let within : i < length group_states = subst (λ (xs : List GroupState). i < length xs) all h in
    let at : s ≡ get_or group_states i s = subst (λ (xs : List GroupState). s ≡ get_or xs i s) all is in
    let many : length (groups_of group_states) ≡ length group_states = length-map group_states group_at in
    let here : test plan i (group_at s) ≡ false = ap (λ (p : Plan). test p i (group_at s)) (sym same) ∙ sym e ∙ fails in
    sym (below-fails (length (groups_of group_states)) (λ g. test plan g (group_of (groups_of group_states) g)) i (omega arith) (ap (test plan i) (group-is group_states i s within at) ∙ here))

-- ---- groups that are moved

-- a group that is moved stands where it stood, or at the place
abbrev MovesOn : (ClientGroup → model.Place → ClientGroup) → Type 0
MovesOn move = (g : ClientGroup) (p : model.Place) → ((move g p).place ≡ g.place) ⊎ ((move g p).place ≡ p)

pub later-moves : MovesOn later_group
later-moves g p = elim (cases_Bool (is_later g.place p)) [ inl e ↦ inr (rw e refl) | inr e ↦ inl (rw e refl) ]

pub reread-moves : MovesOn reread_group
reread-moves g p = elim (cases_Bool (is_later g.place p)) [ inl e ↦ inr (rw e refl) | inr e ↦ inl (rw e refl) ]

-- all that have a place are moved to it
pub moved-all : (move : ClientGroup → model.Place → ClientGroup) (group_states : List GroupState) (places : List Place) (i : ℕ) (whole : List ClientGroup) → length places ≤ i
    → groups_of (take i group_states) ++ with_places move (groups_of (drop i group_states)) (map wire.place_of (drop i places)) ≡ whole → groups_of group_states ≡ whole
moved-all move group_states places i whole end h = grind (arith, common_steps, (take-append-drop i group_states), (map-append group_at (take i group_states) (drop i group_states)), (drop_all i places end))

-- a group that was taken up beforehand is moved as one that is new
with_places-taken : (move : ClientGroup → model.Place → ClientGroup) (groups : List ClientGroup) (places : List model.Place) (n : ℕ) → n ≡ length places - length groups → with_places move (groups ++ replicate n no_group) places ≡ with_places move groups places
with_places-taken move groups [] n h = let e : n ≡ 0 = omega arith in ap (λ m. groups ++ replicate m no_group) e ∙ append-nil groups
with_places-taken move [] (p ∷ places) n h =
    let e : n ≡ suc (length places) = omega arith in
    ap (λ m. with_places move (replicate m no_group) (p ∷ places)) e ∙ ap (λ gs. move no_group p ∷ gs) (with_places-taken move [] places (length places) (omega arith))
with_places-taken move (g ∷ groups) (p ∷ places) n h = ap (λ gs. move g p ∷ gs) (with_places-taken move groups places n (omega arith))

-- groups that were taken up, and then moved in place
pub moved-items : {Z : Type 0} (move : ClientGroup → model.Place → ClientGroup) (old : List GroupState) (extended : Vec GroupState Z) (slice moved : List GroupState) (places : List Place) → groups_of extended.items ≡ groups_of old ++ replicate (length places - length old) no_group
    → slice ≡ extended.items → groups_of moved ≡ with_places move (groups_of slice) (map wire.place_of places) → length moved ≡ length slice
    → groups_of (with_items extended moved).items ≡ with_places move (groups_of old) (map wire.place_of places)
moved-items move old extended slice moved places more value is same =
    let many : length (map wire.place_of places) ≡ length places = length-map places wire.place_of in
    let kept : length (groups_of old) ≡ length old = length-map old group_at in
    ap groups_of (with_items_is extended moved (same ∙ ap length value ∙ sym extended.ok.0)) ∙ is
    ∙ ap (λ (xs : List GroupState). with_places move (groups_of xs) (map wire.place_of places)) value
    ∙ ap (λ gs. with_places move gs (map wire.place_of places)) more ∙ with_places-taken move (groups_of old) (map wire.place_of places) (length places - length old) (omega arith)

-- each place is one of a configuration
place-good : (plan : Plan) (places : List model.Place) → are_places plan places ≡ true → (k : ℕ) → k < length places → (place_in places k).configuration < plan.configurations k
place-good plan places h k within = grind (arith, common_steps, (is_place plan places k ≡ true), (is_place plan places), (every_below-all (length places) (is_place plan places) (places-parts plan places h).2 k within), (places-parts plan places h))

-- no more places than the plan has groups
pub places-within : (plan : Plan) (places : List model.Place) → are_places plan places ≡ true → length places ≤ plan.groups
places-within plan places h = (places-parts plan places h).1

-- groups that are moved are no more than the plan has
pub moved-within : (plan : Plan) (move : ClientGroup → model.Place → ClientGroup) (old moved : List GroupState) (places : List model.Place) → length old ≤ plan.groups → are_places plan places ≡ true → groups_of moved ≡ with_places move (groups_of old) places → length moved ≤ plan.groups
moved-within plan move old moved places few good is = grind (arith, common_steps, places-within, max, length-with_places, length-map)

-- epoch 0 at the root, where a group stands that the client doesn't have
abbrev nowhere : model.Place
nowhere = record { configuration = 0; epoch = 0 }

-- groups that are moved to places of the plan
pub with_places-placed : (plan : Plan) (move : ClientGroup → model.Place → ClientGroup) → MovesOn move → ((g : ClientGroup) → move g nowhere ≡ g) → (groups : List ClientGroup) (places : List model.Place) → are_places plan places ≡ true → ArePlaced plan groups → ArePlaced plan (with_places move groups places)
with_places-placed plan move on same groups places good placed k h = grind (arith, common_steps, group_of-with_places, max, length-with_places, cases_lt, place_in-beyond, place-good, nowhere, group_of-beyond)

pub new-place : (places : List model.Place) (k : ℕ) → k < length places → place_of (map newly_at places) k ≡ place_in places k
new-place [] k h = absurd (omega arith)
new-place (p ∷ places) zero h = refl
new-place (p ∷ places) (suc k) h = new-place places k (omega arith)

-- groups that a client finds at places of the plan
pub found-placed : (plan : Plan) (places : List model.Place) → are_places plan places ≡ true → ArePlaced plan (map newly_at places)
found-placed plan places good k h = grind (arith, common_steps, length-map, new-place, place-good)
