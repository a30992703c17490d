-- What is written with other certificates spells the same values as what was read.
use Rattle.std.proofs.Common.{◌≡◌, ℕ, suc, ◌+◌, ◌-◌, ◌*◌, ◌≤◌, ◌∙◌, List, [], ◌∷◌, drop, refl, ap, sym, subst, arith, Option, Some, Result, Ok, true, IsOkAnd}
use Rattle.std.specs.Str.{IsUtf8}
use Rattle.serde_json.specs.Data.{Data, Items, no_items, item, depth}
use Rattle.serde_json.specs.Events.{items_len}
use Rattle.serde_json.specs.Read.{read, max_depth}
use Rattle.serde_json.specs.View.{items_of}
use Rattle.volume_model.specs.declared.fault.Fault.{Fault}
use Rattle.volume_model.specs.Common.{◌>>=◌}
use Rattle.refutation.specs.Common.{Rule}
use Rattle.plan.specs.PlanData.{PlanData}
use Rattle.plan.specs.PlanText.{Fields, fields_of, is_from_1, group_items, header_of, Header, value_of, plan_in}
use Rattle.plan.specs.PlanClaims.{PlacedClaim, claims_in}
use Rattle.plan.specs.Rewriting.{fields_object, meets_value, step_value, configuration_written, configurations_written, group_object, group_written, groups_written, plan_object, plan_written}
use Rattle.plan.specs.Kept.{OwnValues, without_certificates, own_fields, each_own, groups_own, own_values, KeepsValues}
use Rattle.plan.proofs.Text.{is_json}
use Rattle.plan.proofs.Reread.{bind_ok, ok_is, fields_of-object}
use Rattle.plan.proofs.RereadPlan.{AreRead, IsBorn, header_of-ok, header_of-object, group_items-ok, group_items-object, plan-reread}
use Rattle.plan.proofs.Rewrites.{value-nests}
use Rattle.plan.proofs.GoodParents.{parents-good}
use Rattle.std.proofs.lemmas.Grind.{common_steps}

-- both values spell these fields, except certificates
record SameFields (d y : Data) : Type 0 where
  fields : Fields
  old : own_fields d ≡ Ok fields
  new : own_fields y ≡ Ok fields

configuration-kept : (c : ℕ) (d y : Data) (vs : List Data) → configuration_written c d vs ≡ Ok y → SameFields d y
unfolding configuration_written
configuration-kept c d y vs h =
    let f = bind_ok (fields_of d) (λ f. Ok (fields_object f (meets_value c vs) (step_value c vs))) y h in
    subst (SameFields d) (ok_is (fields_object f.0 (meets_value c vs) (step_value c vs)) y f.2) (record {
      fields = without_certificates f.0;
      old = ap (λ (r : Result Fields Fault). r >>= λ g. Ok (without_certificates g)) f.1;
      new = ap (λ (r : Result Fields Fault). r >>= λ g. Ok (without_certificates g)) (fields_of-object f.0 (meets_value c vs) (step_value c vs));
    })

-- both lists spell these configurations, except certificates
record SameEach (ds ys : Items) : Type 0 where
  each : List Fields
  old : each_own ds ≡ Ok each
  new : each_own ys ≡ Ok each
  counted : items_len ys ≡ items_len ds

configurations-kept : (c : ℕ) (ds : Items) (ys vs : List Data) → configurations_written c ds vs ≡ Ok ys → SameEach ds (items_of ys)
configurations-kept c no_items ys vs h = subst (λ zs. SameEach no_items (items_of zs)) (ok_is [] ys h) (record { each = []; old = refl; new = refl; counted = refl })
configurations-kept c (item d ds) ys vs h =
    let one = bind_ok (configuration_written c d vs) (λ x. configurations_written (c + 1) ds vs >>= λ xs. Ok (x ∷ xs)) ys h in
    let more = bind_ok (configurations_written (c + 1) ds vs) (λ xs. Ok (one.0 ∷ xs)) ys one.2 in
    let here = configuration-kept c d one.0 vs one.1 in
    let there = configurations-kept (c + 1) ds more.0 vs more.1 in
    subst (λ zs. SameEach (item d ds) (items_of zs)) (ok_is (one.0 ∷ more.0) ys more.2) (record {
      each = here.fields ∷ there.each;
      old = λ i. here.old i >>= λ f. there.old i >>= λ fs. Ok (f ∷ fs);
      new = λ i. here.new i >>= λ f. there.new i >>= λ fs. Ok (f ∷ fs);
      counted = ap suc there.counted;
    })

-- a group that was written spells these configurations
record SameGroup (ds : Items) (y : Data) : Type 0 where
  each : List Fields
  old : each_own ds ≡ Ok each
  new : (group_items y >>= each_own) ≡ Ok each

group-kept : (d : Data) (ds : Items) (y : Data) (vs : List Data) → group_items d ≡ Ok ds → group_written ds vs ≡ Ok y → SameGroup ds y
unfolding group_written
group-kept d ds y vs items h =
    let all = bind_ok (configurations_written 0 ds vs) (λ xs. Ok (group_object xs)) y h in
    let kept = configurations-kept 0 ds all.0 vs all.1 in
    grind (arith, common_steps, ok_is, group_items-object, (ap (is_from_1 64) kept.counted ∙ (group_items-ok d ds items).few))

-- both lists spell these groups, except certificates
record SameGroups (ds ys : Items) : Type 0 where
  groups : List (List Fields)
  old : groups_own ds ≡ Ok groups
  new : groups_own ys ≡ Ok groups
  counted : items_len ys ≡ items_len ds

group-first : (y : Data) (ys : Items) (fs : List Fields) (gs : List (List Fields)) → (group_items y >>= each_own) ≡ Ok fs → groups_own ys ≡ Ok gs → groups_own (item y ys) ≡ Ok (fs ∷ gs)
group-first y ys fs gs here there = grind (arith, common_steps)

groups-kept : (ds : Items) (ys vs : List Data) → groups_written ds vs ≡ Ok ys → SameGroups ds (items_of ys)
groups-kept no_items ys vs h = subst (λ zs. SameGroups no_items (items_of zs)) (ok_is [] ys h) (record { groups = []; old = refl; new = refl; counted = refl })
groups-kept (item d ds) ys vs h =
    let items = bind_ok (group_items d) (λ cs. group_written cs vs >>= λ x. groups_written ds (drop (2 * items_len cs - 1) vs) >>= λ xs. Ok (x ∷ xs)) ys h in
    let left = drop (2 * items_len items.0 - 1) vs in
    let one = bind_ok (group_written items.0 vs) (λ x. groups_written ds left >>= λ xs. Ok (x ∷ xs)) ys items.2 in
    let more = bind_ok (groups_written ds left) (λ xs. Ok (one.0 ∷ xs)) ys one.2 in
    let here = group-kept d items.0 one.0 vs items.1 one.1 in
    let there = groups-kept ds more.0 left more.1 in
    subst (λ zs. SameGroups (item d ds) (items_of zs)) (ok_is (one.0 ∷ more.0) ys more.2) (record {
      groups = here.each ∷ there.groups;
      old = group-first d ds here.each there.groups (ap (λ (r : Result Items Fault). r >>= each_own) items.1 ∙ here.old) there.old;
      new = group-first one.0 (items_of more.0) here.each there.groups here.new there.new;
      counted = ap suc there.counted;
    })

-- both values spell this plan, except certificates
record SameValues (d y : Data) : Type 0 where
  values : OwnValues
  old : own_values d ≡ Ok values
  new : own_values y ≡ Ok values

abbrev own_of : Header → Result OwnValues Fault
own_of h = groups_own h.groups >>= λ gs. Ok (record { format = h.format; lal = h.lal; born = h.born; groups = gs })

plan-kept : (d y : Data) (vs : List Data) → plan_written d vs ≡ Ok y → SameValues d y
unfolding plan_written own_values
plan-kept d y vs h =
    let header = bind_ok (header_of d) (λ h. groups_written h.groups vs >>= λ xs. Ok (plan_object h.format h.lal h.born xs)) y h in
    let format = header.0.format in
    let lal = header.0.lal in
    let born = header.0.born in
    let groups = bind_ok (groups_written header.0.groups vs) (λ xs. Ok (plan_object format lal born xs)) y header.2 in
    let kept = groups-kept header.0.groups groups.0 vs groups.1 in
    let headed = header_of-ok d header.0 header.1 in
    let few : is_from_1 16 (items_len (items_of groups.0)) ≡ true = ap (is_from_1 16) kept.counted ∙ headed.few in
    let at_birth : IsBorn format (items_len (items_of groups.0)) born = subst (λ n. IsBorn format n born) (sym kept.counted) headed.born in
    subst (SameValues d) (ok_is (plan_object format lal born groups.0) y groups.2) (record {
      values = record { format = format; lal = lal; born = born; groups = kept.groups };
      old = ap (λ (r : Result Header Fault). r >>= own_of) header.1 ∙ ap (λ (r : Result (List (List Fields)) Fault). r >>= λ gs. Ok (record { format = format; lal = lal; born = born; groups = gs })) kept.old;
      new = grind (arith, common_steps, (header_of-object format lal born groups.0 headed.lal few at_birth), (List (List Fields)), (List Fields));
    })

-- The bytes that are written spell the values of the text, except certificates.
pub keeps-values : (text bytes : List ℕ) (d y : Data) (plan : PlanData) (claims : List PlacedClaim) (vs : List Data) (rs : List (Option Rule)) → value_of text ≡ Ok d → plan_in d ≡ Ok plan → claims_in plan ≡ Ok claims → AreRead vs rs → plan_written d vs ≡ Ok y
    → IsUtf8 bytes → (depth y ≤ max_depth → read bytes ≡ Some y) → KeepsValues text bytes
keeps-values text bytes d y plan claims vs rs value is listed h written utf8 back =
    let again = plan-reread d plan vs rs h (parents-good plan claims listed) is in
    let same : again.value ≡ y = ok_is again.value y (sym again.is ∙ written) in
    let shallow : depth y ≤ max_depth = subst (λ z. depth z ≤ max_depth) same (again.nests max_depth (value-nests text d value) (omega arith)) in
    let kept = plan-kept d y vs written in
    grind (arith, common_steps, Ok, is_json, IsOkAnd)
