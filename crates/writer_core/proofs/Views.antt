-- What a View makes a client say.
use Rattle.std.proofs.Common.{◌≡◌, ℕ, zero, suc, ◌<◌, Bool, true, false, List, [], ◌∷◌, ◌++◌, Ok, length, if◌then◌else◌, refl, sym, ap, ap₂, arith, not, map}
use Rattle.std.proofs.lemmas.Bool.{and_parts, eq-eqb}
use Rattle.volume_model.specs.Common.{each_below, joined, Plan, place_in, Redo, in_pieces, Lineage, ClientGroup, group_of, place_of, label_of, raised, fences, installs, to_install, is_later, later_in, later_unjoined, later_group, reread_group, with_places, are_places, taken}
use Rattle.volume_model.specs.Message as model
use Rattle.volume_model.proofs.Groups.{group_of-with_places, later_group-none, reread_group-none}
use Rattle.wire.specs.declared.label.Place.{Place}
use Rattle.wire.specs.Message as wire
use Rattle.writer_core.proofs.Acknowledging.{with_groups}
use Rattle.std.proofs.lemmas.Grind.{common_steps}

-- ---- the same messages

-- what is said of the chosen ones alone
pub each-same : {A : Type 0} (n : ℕ) (test : ℕ → Bool) (f g : ℕ → A) → ((k : ℕ) → k < n → test k ≡ true → f k ≡ g k) → each_below n test f ≡ each_below n test g
each-same zero test f g h = refl
each-same (suc n) test f g h =
    let inner : each_below n test f ≡ each_below n test g = each-same n test f g (λ k l t. h k (omega arith) t) in
    ap₂ (λ a b. a ++ b) inner (last (test n) refl)
  where
    last : (b : Bool) → test n ≡ b → (if b then f n ∷ [] else []) ≡ (if b then g n ∷ [] else [])
    last true e = ap (λ x. x ∷ []) (h n (omega arith) e)
    last false e = refl

-- a group that is raised stands at its place in the View
with_places-raised : (move : ClientGroup → model.Place → ClientGroup) → ((g : ClientGroup) → move g (record { configuration = 0; epoch = 0 }) ≡ g) → ((g : ClientGroup) (p : model.Place) → is_later g.place p ≡ true → (move g p).place ≡ p)
    → (groups : List ClientGroup) (places : List model.Place) (k : ℕ) → later_in (place_of groups) (place_in places) k ≡ true → place_of (with_places move groups places) k ≡ place_in places k
with_places-raised move same on groups places k raised = grind (arith, common_steps, group_of-with_places)

-- only groups that are raised are chosen
abbrev pub ChoosesRaised : List ClientGroup → List model.Place → (ℕ → Bool) → Type 0
ChoosesRaised groups places chosen = (k : ℕ) → chosen k ≡ true → later_in (place_of groups) (place_in places) k ≡ true

pub fences-with_places : (n volume : ℕ) (groups : List ClientGroup) (places : List model.Place) (chosen : ℕ → Bool) → ChoosesRaised groups places chosen
    → fences n volume (place_in places) chosen ≡ fences n volume (place_of (with_places reread_group groups places)) chosen
fences-with_places n volume groups places chosen raised = grind (arith, common_steps, each-same, with_places-raised, reread_group-none)

pub installs-with_places : (n volume : ℕ) (groups : List ClientGroup) (places : List model.Place) (lineage : Lineage) (log : List Redo) (chosen : ℕ → Bool) → ChoosesRaised groups places chosen
    → installs n volume (place_in places) lineage log chosen ≡ installs n volume (place_of (with_places later_group groups places)) lineage log chosen
installs-with_places n volume groups places lineage log chosen raised =
    let said : (ℕ → model.Place) → ℕ → List model.Message = λ at k. in_pieces (to_install lineage log k) (model.Message.Install k (label_of volume at k)) in
    ap joined (each-same n chosen (said (place_in places)) (said (place_of (with_places later_group groups places)))
    (λ k l t. ap (λ (p : model.Place). in_pieces (to_install lineage log k) (model.Message.Install k (record { volume = volume; member = p.epoch }))) (sym (with_places-raised later_group later_group-none (λ g p e. rw e refl) groups places k (raised k t)))))

-- ---- a View for a writer

unjoined-raised : (groups : List ClientGroup) (places : List model.Place) → ChoosesRaised groups places (later_unjoined groups (place_in places))
unjoined-raised groups places k h = (and_parts (later_in (place_of groups) (place_in places) k) (not (group_of groups k).joined) h).0

-- what is said of a list of places is said of the View that has it
pub installs-listed : (volume : ℕ) (groups : List ClientGroup) (lineage : Lineage) (places items : List Place) (made : List model.Message) → places ≡ items
    → made ≡ installs (length places) volume (place_in (map wire.place_of places)) lineage [] (later_unjoined groups (place_in (map wire.place_of places)))
    → made ≡ installs (length (map wire.place_of items)) volume (place_in (map wire.place_of items)) lineage [] (later_unjoined groups (place_in (map wire.place_of items)))
installs-listed volume groups lineage places items made same is = grind (arith, common_steps)

pub view-writing : (plan : Plan) (volume of : ℕ) (groups now : List ClientGroup) (lineage : Lineage) (found log : List Redo) (places : List model.Place) (made : List model.Message) → of ≡ volume → are_places plan places ≡ true
    → now ≡ raised plan (with_places later_group groups places) → made ≡ installs (length places) volume (place_in places) lineage [] (later_unjoined groups (place_in places))
    → taken plan volume (with_groups groups lineage found log) (model.Message.View of places) ≡ Ok (record { made = made; client = with_groups now lineage found log })
view-writing plan volume of groups now lineage found log places made same good new is =
    let said : made ≡ installs (length places) volume (place_of (with_places later_group groups places)) lineage [] (later_unjoined groups (place_in places)) = grind (arith, common_steps, installs-with_places, unjoined-raised) in
    rw (eq-eqb of volume same, good) (ap₂ (λ ms gs. Ok (record { made = ms; client = with_groups gs lineage found log })) (sym said) (sym new))
