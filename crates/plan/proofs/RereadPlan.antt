-- The configurations, groups and the whole of a plan that was written with other certificates are read as that plan's.
use Rattle.std.proofs.Common.{◌≡◌, ℕ, zero, suc, ◌+◌, ◌-◌, ◌*◌, ◌<◌, ◌≤◌, ◌∙◌, List, [], ◌∷◌, length, map, drop, codes, refl, ap, sym, subst, arith, add-zero, Option, Some, None, Result, Ok, Err, Bool, true, false, ◌==◌, if◌then◌else◌}
use Rattle.std.proofs.lemmas.List.{drop-map, drop-drop, get_or-drop}
use Rattle.std.proofs.lemmas.Bool.Decides.{nat_tests}
use Rattle.serde_json.specs.Data.{Data, null, Items, no_items, item, depth, items_depth}
use Rattle.serde_json.specs.Events.{items_len}
use Rattle.serde_json.specs.View.{items_of}
use Rattle.volume_model.specs.declared.fault.Fault.{Fault}
use Rattle.volume_model.specs.declared.fault.Fault.TheVariants.{OverLimit}
use Rattle.volume_model.specs.Common.{◌>>=◌}
use Rattle.quorum_expr.specs.Common.{at_key}
use Rattle.refutation.specs.Common.{Rule, has_keys, array_of}
use Rattle.plan.specs.declared.formats.Format.{Format}
use Rattle.plan.specs.declared.formats.Format.TheVariants.{Plain, Weighted, Growing}
use Rattle.plan.specs.Formats.{is_weighted}
use Rattle.plan.specs.declared.fault.PlanFault.{PlanFault}
use Rattle.plan.specs.PlanData.{ConfigurationData, PlanData, by_parent}
use Rattle.plan.specs.PlanFaults.{is_good_parent}
use Rattle.plan.specs.PlanText.{◌>=>◌, in_text, certificate_or_null, step_of, configuration_in, configurations_in, is_from_1, group_items, group_in, groups_in, TopFields, Header, group_list, lal_of, format_of, born_field, top_fields_of, born_of, header_of, plan_in}
use Rattle.plan.specs.WithCertificates.{certificate_at, claim_count, claim_counts, configuration_with, configurations_with, groups_with, with_certificates}
use Rattle.plan.specs.Rewriting.{value_or_null, meets_value, step_value, configurations_written, group_object, group_written, groups_written, plan_object, plan_written}
use Rattle.plan.proofs.Reread.{then_ok, bind_ok, text_ok, ok_is, if_ok, key-nests, array-nests, Rewritten, configuration-reread}
use Rattle.std.proofs.lemmas.Grind.{common_steps}

-- ---- certificates

-- values that are read as these certificates, and nest little
pub record AreRead (vs : List Data) (rs : List (Option Rule)) : Type 0 where
  pub read : map certificate_or_null vs ≡ map Ok rs
  pub nest : (i : ℕ) → depth (value_or_null vs i) ≤ 81

read-at : (vs : List Data) (rs : List (Option Rule)) (i : ℕ) → map certificate_or_null vs ≡ map Ok rs → certificate_or_null (value_or_null vs i) ≡ Ok (certificate_at rs i)
read-at [] [] i h = refl
read-at [] (r ∷ rs) i h = absurd (cc)
read-at (v ∷ vs) [] i h = absurd (cc)
read-at (v ∷ vs) (r ∷ rs) zero h = (cc)
read-at (v ∷ vs) (r ∷ rs) (suc i) h = read-at vs rs i (cc)

AreRead-drop : (n : ℕ) (vs : List Data) (rs : List (Option Rule)) → AreRead vs rs → AreRead (drop n vs) (drop n rs)
AreRead-drop n vs rs h = record {
  read = sym (drop-map certificate_or_null n vs) ∙ ap (drop n) h.read ∙ drop-map Ok n rs;
  nest = λ i. subst (λ d. depth d ≤ 81) (sym (get_or-drop n vs i null)) (h.nest (n + i));
}

-- ---- parents

-- configuration 0 has no parent, and each other one has one, the first of these being number c
abbrev pub GoodFrom : ℕ → List ConfigurationData → Type 0
GoodFrom c [] = Unit {0}
GoodFrom c (x ∷ xs) = (is_good_parent c x.parent ≡ true) × GoodFrom (c + 1) xs

abbrev pub AllGood : List (List ConfigurationData) → Type 0
AllGood [] = Unit {0}
AllGood (xs ∷ groups) = GoodFrom 0 xs × AllGood groups

no_parent : (q : Option ℕ) → is_good_parent 0 q ≡ true → q ≡ None
no_parent None h = refl
no_parent (Some p) h = grind (arith, common_steps)

abbrev HasParent : Option ℕ → Type 0
HasParent None = ⊥
HasParent (Some p) = Unit {0}

nonzero : (c : ℕ) → (suc c == 0) ≡ false
nonzero c = grind (arith, nat_tests)

some_parent : (c : ℕ) (q : Option ℕ) → is_good_parent (suc c) q ≡ true → HasParent q
some_parent c None h = absurd (cc (nonzero c))
some_parent c (Some p) h = tt

-- ---- a configuration

-- how many places a group has before configuration c
abbrev before : ℕ → ℕ
before c = 2 * c - 1

step_of-root : (vs : List Data) → step_of 0 (step_value 0 vs) ≡ Ok None
unfolding step_of
step_of-root vs = refl

step_of-child : (c : ℕ) (vs : List Data) → step_of (suc c) (step_value (suc c) vs) ≡ certificate_or_null (value_or_null vs (2 * suc c))
unfolding step_of
step_of-child c vs = rw (nonzero c) refl

by_parent-some : {A : Type 0} (q : Option ℕ) (root under : A) → HasParent q → by_parent q root (λ p. under) ≡ under
by_parent-some None root under h = absurd h
by_parent-some (Some p) root under h = refl

by_parent-none : {A : Type 0} (q : Option ℕ) (root under : A) → q ≡ None → by_parent q root (λ p. under) ≡ root
by_parent-none None root under h = refl
by_parent-none (Some p) root under h = absurd (cc)

one-more : (n : ℕ) (rs : List (Option Rule)) (i : ℕ) → certificate_at (drop n rs) i ≡ certificate_at rs (n + i)
one-more n rs i = get_or-drop n rs i None

meets-read : (c : ℕ) (vs : List Data) (rs : List (Option Rule)) → AreRead vs rs → certificate_or_null (meets_value c vs) ≡ Ok (certificate_at (drop (before c) rs) 0)
meets-read c vs rs h = read-at vs rs (before c) h.read ∙ ap Ok (ap (certificate_at rs) (sym (add-zero (before c))) ∙ sym (one-more (before c) rs 0))

step-read : (c : ℕ) (q : Option ℕ) (vs : List Data) (rs : List (Option Rule)) → AreRead vs rs → is_good_parent c q ≡ true → step_of c (step_value c vs) ≡ Ok (by_parent q None (λ p. certificate_at (drop (before c) rs) 1))
step-read zero q vs rs h good = step_of-root vs ∙ ap Ok (sym (by_parent-none q None (certificate_at rs 1) (no_parent q good)))
step-read (suc c) q vs rs h good = grind (arith, common_steps, before, step_of-child, read-at, Ok, one-more, by_parent-some, None, some_parent)

step-nests : (c : ℕ) (vs : List Data) → ((i : ℕ) → depth (value_or_null vs i) ≤ 81) → depth (step_value c vs) ≤ 81
step-nests c vs h = grind (arith, common_steps)

abbrev claims_under : Option ℕ → ℕ
claims_under q = by_parent q 1 (λ p. 2)

next-places : (c : ℕ) (q : Option ℕ) → is_good_parent c q ≡ true → before c + claims_under q ≡ before (c + 1)
next-places zero q good = grind (arith, common_steps)
next-places (suc c) q good = grind (arith, common_steps)

-- ---- configurations

record Relisted (old : Items) (written : List Data → Type 0) (reads : Items → Type 0) (most : ℕ) : Type 0 where
  values : List Data
  is : written values
  read : reads (items_of values)
  counted : items_len (items_of values) ≡ items_len old
  nests : (n : ℕ) → items_depth old ≤ n → most ≤ n → items_depth (items_of values) ≤ n

configurations-reread : (w : Bool) (g c : ℕ) (ds : Items) (xs : List ConfigurationData) (vs : List Data) (rs : List (Option Rule)) → AreRead vs rs → GoodFrom c xs → configurations_in w g c ds ≡ Ok xs
    → Relisted ds (λ ys. configurations_written c ds vs ≡ Ok ys) (λ ys. configurations_in w g c ys ≡ Ok (configurations_with xs (drop (before c) rs))) 82
configurations-reread w g c no_items [] vs rs h good is = record { values = []; is = refl; read = refl; counted = refl; nests = λ n h k. omega arith }
configurations-reread w g c no_items (x ∷ xs) vs rs h good is = absurd (cc)
configurations-reread w g c (item d ds) [] vs rs h good is = grind (arith, common_steps)
configurations-reread w g c (item d ds) (x ∷ xs) vs rs h good is =
    let one = then_ok (configuration_in w g c d) (λ x. configurations_in w g (c + 1) ds >=> λ xs. Ok (x ∷ xs)) (x ∷ xs) is in
    let more = then_ok (configurations_in w g (c + 1) ds) (λ xs. Ok (one.0 ∷ xs)) (x ∷ xs) one.2 in
    let first : one.0 ≡ x = cc in
    let others : more.0 ≡ xs = cc in
    let here = configuration-reread w g c d x vs (certificate_at (drop (before c) rs) 0) (by_parent x.parent None (λ p. certificate_at (drop (before c) rs) 1)) (meets-read c vs rs h) (step-read c x.parent vs rs h good.0) (h.nest (before c)) (step-nests c vs h.nest) (one.1 ∙ ap Ok first) in
    let there = configurations-reread w g (c + 1) ds xs vs rs h good.1 (more.1 ∙ ap Ok others) in
    let left : drop (claim_count x) (drop (before c) rs) ≡ drop (before (c + 1)) rs = drop-drop (claim_count x) (before c) rs ∙ ap (λ n. drop n rs) (next-places c x.parent good.0) in
    record {
      values = here.value ∷ there.values;
      is = λ i. here.is i >>= λ y. there.is i >>= λ ys. Ok (y ∷ ys);
      read = (λ i. here.read i >=> λ y. there.read i >=> λ ys. Ok (y ∷ ys)) ∙ ap (λ rest. Ok (configuration_with x (drop (before c) rs) ∷ configurations_with xs rest)) (sym left);
      counted = ap suc there.counted;
      nests = λ n k l. omega (arith, here.nests n (omega arith) l, there.nests n (omega arith) l);
    }

configurations-counted : (w : Bool) (g c : ℕ) (ds : Items) (xs : List ConfigurationData) → configurations_in w g c ds ≡ Ok xs → length xs ≡ items_len ds
configurations-counted w g c no_items xs is = ap length (sym (ok_is [] xs is))
configurations-counted w g c (item d ds) xs is =
    let one = then_ok (configuration_in w g c d) (λ x. configurations_in w g (c + 1) ds >=> λ xs. Ok (x ∷ xs)) xs is in
    let more = then_ok (configurations_in w g (c + 1) ds) (λ xs. Ok (one.0 ∷ xs)) xs one.2 in
    let same : one.0 ∷ more.0 ≡ xs = ok_is (one.0 ∷ more.0) xs more.2 in
    let rest = configurations-counted w g (c + 1) ds more.0 more.1 in
    omega (arith, ap length same)

children-counted : (c : ℕ) (xs : List ConfigurationData) → GoodFrom (suc c) xs → claim_counts xs ≡ 2 * length xs
children-counted c [] good = refl
children-counted c (x ∷ xs) good =
    let two : claim_count x ≡ 2 = by_parent-some x.parent 1 2 (some_parent c x.parent good.0) in
    let after : GoodFrom (suc (suc c)) xs = subst (λ n. GoodFrom n xs) (omega arith) good.1 in
    omega (arith, two, children-counted (suc c) xs after)

claims-counted : (xs : List ConfigurationData) → GoodFrom 0 xs → claim_counts xs ≡ 2 * length xs - 1
claims-counted [] good = refl
claims-counted (x ∷ xs) good = grind (arith, common_steps, by_parent-none, no_parent, children-counted)

-- ---- groups

pub group_items-object : (ys : List Data) → is_from_1 64 (items_len (items_of ys)) ≡ true → group_items (group_object ys) ≡ Ok (items_of ys)
unfolding group_items
group_items-object ys h = rw h refl

pub record Grouped (d : Data) (ds : Items) : Type 0 where
  pub few : is_from_1 64 (items_len ds) ≡ true
  pub nests : suc (items_depth ds) < depth d

pub group_items-ok : (d : Data) (ds : Items) → group_items d ≡ Ok ds → Grouped d ds
unfolding group_items
group_items-ok d ds h =
    let keys = bind_ok (has_keys 1 d) (λ u. at_key (codes "configurations") d >>= λ cs. array_of cs >>= λ ds. if is_from_1 64 (items_len ds) then Ok ds else Err OverLimit) ds h in
    let found = bind_ok (at_key (codes "configurations") d) (λ cs. array_of cs >>= λ ds. if is_from_1 64 (items_len ds) then Ok ds else Err OverLimit) ds keys.2 in
    let listed = bind_ok (array_of found.0) (λ ds. if is_from_1 64 (items_len ds) then Ok ds else Err OverLimit) ds found.2 in
    let few = if_ok (is_from_1 64 (items_len listed.0)) listed.0 ds OverLimit listed.2 in
    grind (arith, common_steps, (key-nests (codes "configurations") d found.0 found.1), (codes "configurations"), (array-nests found.0 listed.0 listed.1))

group-reread : (w : Bool) (g : ℕ) (d : Data) (ds : Items) (xs : List ConfigurationData) (vs : List Data) (rs : List (Option Rule)) → AreRead vs rs → GoodFrom 0 xs → group_items d ≡ Ok ds → configurations_in w g 0 ds ≡ Ok xs
    → Rewritten d (λ y. group_written ds vs ≡ Ok y) (λ y. group_in w g y ≡ Ok (configurations_with xs rs)) 84
unfolding group_written group_in
group-reread w g d ds xs vs rs h good items is =
    let grouped = group_items-ok d ds items in
    let all = configurations-reread w g 0 ds xs vs rs h good is in
    record {
      value = group_object all.values;
      is = λ i. all.is i >>= λ ys. Ok (group_object ys);
      read = (λ i. in_text (group_items-object all.values (ap (is_from_1 64) all.counted ∙ grouped.few) i) >=> configurations_in w g 0) ∙ all.read;
      nests = λ n k l. omega (arith, grouped.nests, all.nests (n - 2) (omega (arith, grouped.nests)) (omega arith));
    }

group-split : (w : Bool) (g : ℕ) (d : Data) (xs : List ConfigurationData) → group_in w g d ≡ Ok xs → (ds : Items) × (group_items d ≡ Ok ds) × (configurations_in w g 0 ds ≡ Ok xs)
unfolding group_in
group-split w g d xs h = grind (arith, common_steps)

groups-reread : (w : Bool) (g : ℕ) (ds : Items) (groups : List (List ConfigurationData)) (vs : List Data) (rs : List (Option Rule)) → AreRead vs rs → AllGood groups → groups_in w g ds ≡ Ok groups
    → Relisted ds (λ ys. groups_written ds vs ≡ Ok ys) (λ ys. groups_in w g ys ≡ Ok (groups_with groups rs)) 84
groups-reread w g no_items [] vs rs h good is = record { values = []; is = refl; read = refl; counted = refl; nests = λ n h k. omega arith }
groups-reread w g no_items (xs ∷ groups) vs rs h good is = absurd (cc)
groups-reread w g (item d ds) [] vs rs h good is = grind (arith, common_steps)
groups-reread w g (item d ds) (xs ∷ groups) vs rs h good is =
    let one = then_ok (group_in w g d) (λ x. groups_in w (g + 1) ds >=> λ xs. Ok (x ∷ xs)) (xs ∷ groups) is in
    let more = then_ok (groups_in w (g + 1) ds) (λ xs. Ok (one.0 ∷ xs)) (xs ∷ groups) one.2 in
    let first : one.0 ≡ xs = cc in
    let others : more.0 ≡ groups = cc in
    let split = group-split w g d xs (one.1 ∙ ap Ok first) in
    let here = group-reread w g d split.0 xs vs rs h good.0 split.1 split.2 in
    let places : claim_counts xs ≡ 2 * items_len split.0 - 1 = claims-counted xs good.0 ∙ ap (λ n. 2 * n - 1) (configurations-counted w g 0 split.0 xs split.2) in
    let there = groups-reread w (g + 1) ds groups (drop (2 * items_len split.0 - 1) vs) (drop (2 * items_len split.0 - 1) rs) (AreRead-drop (2 * items_len split.0 - 1) vs rs h) good.1 (more.1 ∙ ap Ok others) in
    record {
      values = here.value ∷ there.values;
      is = ap (λ (r : Result Items Fault). r >>= λ cs. group_written cs vs >>= λ x. groups_written ds (drop (2 * items_len cs - 1) vs) >>= λ xs. Ok (x ∷ xs)) split.1 ∙ (λ i. here.is i >>= λ y. there.is i >>= λ ys. Ok (y ∷ ys));
      read = (λ i. here.read i >=> λ y. there.read i >=> λ ys. Ok (y ∷ ys)) ∙ ap (λ n. Ok (configurations_with xs rs ∷ groups_with groups (drop n rs))) (sym places);
      counted = ap suc there.counted;
      nests = λ n k l. omega (arith, here.nests n (omega arith) l, there.nests n (omega arith) l);
    }

-- ---- the whole

-- how many of the groups are there at birth, in each format
abbrev pub IsBorn : Format → ℕ → ℕ → Type 0
IsBorn Plain groups born = groups ≡ born
IsBorn Weighted groups born = groups ≡ born
IsBorn Growing groups born = is_from_1 groups born ≡ true

pub record Headed (d : Data) (h : Header) : Type 0 where
  pub lal : is_from_1 10000000 h.lal ≡ true
  pub few : is_from_1 16 (items_len h.groups) ≡ true
  pub born : IsBorn h.format (items_len h.groups) h.born
  pub nests : suc (items_depth h.groups) < depth d

lal_of-ok : (d : Data) (n : ℕ) → lal_of d ≡ Ok n → is_from_1 10000000 n ≡ true
unfolding lal_of
lal_of-ok d n h = grind (arith, common_steps)

group_list-ok : (d : Data) (ds : Items) → group_list d ≡ Ok ds → (is_from_1 16 (items_len ds) ≡ true) × (items_depth ds < depth d)
unfolding group_list
group_list-ok d ds h = grind (arith, common_steps)

record Topped (d : Data) (t : TopFields) : Type 0 where
  born : born_field t.format d ≡ Ok t.born
  nests : depth t.groups < depth d

abbrev from_keys : Data → Format → Result TopFields Fault
from_keys d format = at_key (codes "lal") d >>= λ lal. born_field format d >>= λ born. at_key (codes "groups") d >>= λ groups. Ok (record { format = format; lal = lal; born = born; groups = groups })

top_fields_of-ok : (d : Data) (t : TopFields) → top_fields_of d ≡ Ok t → Topped d t
unfolding top_fields_of
top_fields_of-ok d t is = grind (arith, common_steps, bind_ok, codes, from_keys, Ok, ok_is, key-nests)

no-born : (r : Result Data Fault) → (r >>= λ b. Ok (Some b)) ≡ Ok None → ⊥
no-born (Ok b) h = cc
no-born (Err e) h = cc

born_of-ok : (f : Format) (d : Data) (b : Option Data) (groups born : ℕ) → born_field f d ≡ Ok b → born_of groups b ≡ Ok born → IsBorn f groups born
born_of-ok Plain d None groups born h k = ok_is groups born k
born_of-ok Plain d (Some v) groups born h k = absurd (cc)
born_of-ok Weighted d None groups born h k = ok_is groups born k
born_of-ok Weighted d (Some v) groups born h k = absurd (cc)
born_of-ok Growing d None groups born h k = absurd (no-born (at_key (codes "born") d) h)
born_of-ok Growing d (Some v) groups born h k = grind (arith, common_steps)

pub header_of-ok : (d : Data) (h : Header) → header_of d ≡ Ok h → Headed d h
unfolding header_of
header_of-ok d h is =
    let t = bind_ok (top_fields_of d) (λ t. lal_of t.lal >>= λ lal. group_list t.groups >>= λ groups. born_of (items_len groups) t.born >>= λ born. Ok (record { format = t.format; lal = lal; born = born; groups = groups })) h is in
    let lal = bind_ok (lal_of t.0.lal) (λ lal. group_list t.0.groups >>= λ groups. born_of (items_len groups) t.0.born >>= λ born. Ok (record { format = t.0.format; lal = lal; born = born; groups = groups })) h t.2 in
    let list = bind_ok (group_list t.0.groups) (λ groups. born_of (items_len groups) t.0.born >>= λ born. Ok (record { format = t.0.format; lal = lal.0; born = born; groups = groups })) h lal.2 in
    let born = bind_ok (born_of (items_len list.0) t.0.born) (λ born. Ok (record { format = t.0.format; lal = lal.0; born = born; groups = list.0 })) h list.2 in
    let top = top_fields_of-ok d t.0 t.1 in
    let few = group_list-ok t.0.groups list.0 list.1 in
    grind (arith, common_steps, ok_is, lal_of-ok, born_of-ok)

pub header_of-object : (f : Format) (lal born : ℕ) (ys : List Data) → is_from_1 10000000 lal ≡ true → is_from_1 16 (items_len (items_of ys)) ≡ true → IsBorn f (items_len (items_of ys)) born
    → header_of (plan_object f lal born ys) ≡ Ok (record { format = f; lal = lal; born = born; groups = items_of ys })
unfolding header_of top_fields_of format_of lal_of group_list
header_of-object Plain lal born ys h k b = rw (h, k) (ap (λ n. Ok (record { format = Plain; lal = lal; born = n; groups = items_of ys })) b)
header_of-object Weighted lal born ys h k b = rw (h, k) (ap (λ n. Ok (record { format = Weighted; lal = lal; born = n; groups = items_of ys })) b)
header_of-object Growing lal born ys h k b = rw (h, k, b) refl

object-nests : (f : Format) (lal born : ℕ) (ys : List Data) (n : ℕ) → items_depth (items_of ys) + 2 ≤ n → depth (plan_object f lal born ys) ≤ n
object-nests Plain lal born ys n h = omega arith
object-nests Weighted lal born ys n h = omega arith
object-nests Growing lal born ys n h = omega arith

abbrev from_header : Header → Result PlanData PlanFault
from_header header = groups_in (is_weighted header.format) 0 header.groups >=> λ groups. Ok (record { format = header.format; lal = header.lal; born = header.born; groups = groups })

-- A plan that is written with other certificates is read as the plan with these.
pub plan-reread : (d : Data) (plan : PlanData) (vs : List Data) (rs : List (Option Rule)) → AreRead vs rs → AllGood plan.groups → plan_in d ≡ Ok plan
    → Rewritten d (λ y. plan_written d vs ≡ Ok y) (λ y. plan_in y ≡ Ok (with_certificates plan rs)) 86
unfolding plan_in plan_written
plan-reread d plan vs rs h good is =
    let header = then_ok (in_text (header_of d)) from_header plan is in
    let found : header_of d ≡ Ok header.0 = text_ok (header_of d) header.0 header.1 in
    let groups = then_ok (groups_in (is_weighted header.0.format) 0 header.0.groups) (λ groups. Ok (record { format = header.0.format; lal = header.0.lal; born = header.0.born; groups = groups })) plan header.2 in
    let made : PlanData = record { format = header.0.format; lal = header.0.lal; born = header.0.born; groups = groups.0 } in
    let same : made ≡ plan = ok_is made plan groups.2 in
    let headed = header_of-ok d header.0 found in
    let all = groups-reread (is_weighted header.0.format) 0 header.0.groups groups.0 vs rs h (subst (λ (p : PlanData). AllGood p.groups) (sym same) good) groups.1 in
    record {
      value = plan_object header.0.format header.0.lal header.0.born all.values;
      is = ap (λ (r : Result Header Fault). r >>= λ h. groups_written h.groups vs >>= λ xs. Ok (plan_object h.format h.lal h.born xs)) found ∙ (λ i. all.is i >>= λ xs. Ok (plan_object header.0.format header.0.lal header.0.born xs));
      read = grind (arith, common_steps, header_of-object, from_header, Ok);
      nests = λ n k l. object-nests header.0.format header.0.lal header.0.born all.values n (omega (arith, headed.nests, all.nests (n - 2) (omega (arith, headed.nests)) (omega arith)));
    }
