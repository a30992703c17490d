-- What a View does to a recovery.
use Rattle.std.proofs.Common.{◌≡◌, ℕ, Bool, true, List, Option, Some, None, Result, Ok, Err, length, map, refl, sym, ap, ap₂, ◌∙◌, subst, OnOk, OnErr, eq-eqb}
use Rattle.std.proofs.lemmas.List.{length-map}
use Rattle.volume_model.specs.Common.{Plan, place_in, Redo, Lineage, ClientGroup, unborn, newly_at, place_of, label_of, fences, installs, later_in, later_group, reread_group, with_places, are_places, taken}
use Rattle.volume_model.specs.Message as model
use Rattle.volume_model.proofs.Groups.{group_of-new}
use Rattle.lineage.specs.Lineage.{lineage_of}
use Rattle.wire.specs.declared.label.Place.{Place}
use Rattle.wire.specs.Message as wire
use Rattle.writer_core.specs.Logs.{log_of_set}
use Rattle.writer_core.proofs.Views.{each-same, fences-with_places, installs-with_places}
use Rattle.recovery.specs.declared.found.Found.{Found}
use Rattle.recovery.specs.Recoveries.{client_with}
use Rattle.recovery.specs.Cuts.{are_older}
use Rattle.recovery.proofs.Older.{older-new}

-- what holds before and after a call that may run out of memory
pub either : {A B C : Type 0} (r : Result A B) (P : C → Type 0) (new changed old : C) → OnOk r (new ≡ changed) → OnErr r (new ≡ old) → P changed → P old → P new
either (Ok x) P new changed old e f p q = subst P (sym e) p
either (Err x) P new changed old e f p q = subst P (sym f) q

-- ---- a later View

pub view-reading : (plan : Plan) (volume of : ℕ) (groups now : List ClientGroup) (slice items : List Place) (found : Option Found) (made : List model.Message) → slice ≡ items → of ≡ volume → are_places plan (map wire.place_of items) ≡ true → found ≡ None
    → now ≡ with_places reread_group groups (map wire.place_of slice) → made ≡ fences (length slice) volume (place_in (map wire.place_of slice)) (later_in (place_of groups) (place_in (map wire.place_of slice)))
    → taken plan volume (client_with groups found) (model.Message.View of (map wire.place_of items)) ≡ Ok (record { made = made; client = client_with now found })
view-reading plan volume of groups now slice items found made all same good none new is =
    let places : List model.Place = map wire.place_of slice in
    let good_slice : are_places plan places ≡ true = ap (λ (xs : List Place). are_places plan (map wire.place_of xs)) all ∙ good in
    let chosen : ℕ → Bool = later_in (place_of groups) (place_in places) in
    let said : made ≡ fences (length places) volume (place_of (with_places reread_group groups places)) chosen =
    is ∙ ap (λ n. fences n volume (place_in places) chosen) (sym (length-map slice wire.place_of)) ∙ fences-with_places (length places) volume groups places chosen (λ k t. t) in
    let base : taken plan volume (client_with groups None) (model.Message.View of places) ≡ Ok (record { made = made; client = client_with now None }) =
    rw (eq-eqb of volume same, good_slice) (ap₂ (λ ms gs. Ok (record { made = ms; client = client_with gs None })) (sym said) (sym new)) in
    ap (λ (xs : List Place). taken plan volume (client_with groups found) (model.Message.View of (map wire.place_of xs))) (sym all)
    ∙ subst (λ f. taken plan volume (client_with groups f) (model.Message.View of places) ≡ Ok (record { made = made; client = client_with now f })) (sym none) base

pub view-installing : (plan : Plan) (volume of : ℕ) (groups now : List ClientGroup) (slice items : List Place) (before : Option Found) (found : Found) (made : List model.Message) → slice ≡ items → of ≡ volume → are_places plan (map wire.place_of items) ≡ true → before ≡ Some found
    → now ≡ with_places later_group groups (map wire.place_of slice) → made ≡ installs (length slice) volume (place_in (map wire.place_of slice)) (lineage_of found.lineage) (log_of_set found.log) (later_in (place_of groups) (place_in (map wire.place_of slice)))
    → taken plan volume (client_with groups before) (model.Message.View of (map wire.place_of items)) ≡ Ok (record { made = made; client = client_with now before })
view-installing plan volume of groups now slice items before found made all same good there new is =
    let places : List model.Place = map wire.place_of slice in
    let good_slice : are_places plan places ≡ true = ap (λ (xs : List Place). are_places plan (map wire.place_of xs)) all ∙ good in
    let chosen : ℕ → Bool = later_in (place_of groups) (place_in places) in
    let lineage : Lineage = lineage_of found.lineage in
    let log : List Redo = log_of_set found.log in
    let said : made ≡ installs (length places) volume (place_of (with_places later_group groups places)) lineage log chosen =
    is ∙ ap (λ n. installs n volume (place_in places) lineage log chosen) (sym (length-map slice wire.place_of)) ∙ installs-with_places (length places) volume groups places lineage log chosen (λ k t. t) in
    let base : taken plan volume (client_with groups (Some found)) (model.Message.View of places) ≡ Ok (record { made = made; client = client_with now (Some found) }) =
    rw (eq-eqb of volume same, good_slice) (ap₂ (λ ms gs. Ok (record { made = ms; client = client_with gs (Some found) })) (sym said) (sym new)) in
    ap (λ (xs : List Place). taken plan volume (client_with groups before) (model.Message.View of (map wire.place_of xs))) (sym all)
    ∙ subst (λ f. taken plan volume (client_with groups f) (model.Message.View of places) ≡ Ok (record { made = made; client = client_with now f })) (sym there) base

-- ---- the first View

fences-new : (volume : ℕ) (places : List model.Place) → fences (length (map newly_at places)) volume (place_of (map newly_at places)) (λ group. true) ≡ fences (length places) volume (place_in places) (λ group. true)
fences-new volume places =
    ap (λ n. fences n volume (place_of (map newly_at places)) (λ group. true)) (length-map places newly_at)
    ∙ each-same (length places) (λ group. true) (λ k. model.Message.Fence k (label_of volume (place_of (map newly_at places)) k)) (λ k. model.Message.Fence k (label_of volume (place_in places) k))
    (λ k l t. ap (λ (g : ClientGroup). model.Message.Fence k (record { volume = volume; member = g.place.epoch })) (group_of-new places k))

pub birth-is : (plan : Plan) (volume : ℕ) (places : List model.Place) (groups : List ClientGroup) (made : List model.Message) → are_places plan places ≡ true → groups ≡ map newly_at places → made ≡ fences (length groups) volume (place_of groups) (λ group. true)
    → taken plan volume unborn (model.Message.View volume places) ≡ Ok (record { made = made; client = client_with groups None })
birth-is plan volume places groups made good same is =
    let said : made ≡ fences (length places) volume (place_in places) (λ group. true) = is ∙ ap (λ gs. fences (length gs) volume (place_of gs) (λ group. true)) same ∙ fences-new volume places in
    rw (eq-eqb volume volume refl, good) (ap₂ (λ ms gs. Ok (record { made = ms; client = client_with gs None })) (sym said) (sym same))

pub found-older : (volume : ℕ) (places : List model.Place) (groups : List ClientGroup) → groups ≡ map newly_at places → are_older volume groups ≡ true
found-older volume places groups same = subst (λ gs. are_older volume gs ≡ true) (sym same) (older-new volume places)
