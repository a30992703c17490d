-- A plan that was written with other certificates is read as that plan.
use Rattle.std.proofs.Common.{◌≡◌, ℕ, ◌<◌, ◌≤◌, ◌∙◌, max, List, codes, refl, ap, arith, Option, Some, None, Result, Ok, Err, Ordering, Less, Equal, Greater, Bool, true, false, if◌then◌else◌}
use Rattle.std.specs.Ordering.{nat_cmp, match_ordering}
use Rattle.std.specs.Cmp.Lexicographic.{slice_cmp}
use Rattle.serde_json.specs.Data.{Data, array, object, Items, Members, no_members, member, depth, items_depth, members_depth}
use Rattle.serde_json.specs.Find.{get, get_member}
use Rattle.volume_model.specs.declared.fault.Fault.{Fault}
use Rattle.volume_model.specs.Common.{Formula, ◌>>=◌}
use Rattle.quorum_expr.specs.declared.form.Lists.{Lists}
use Rattle.quorum_expr.specs.Common.{found_or_malformed, at_key, expression_in}
use Rattle.refutation.specs.Common.{Rule, array_of}
use Rattle.plan.specs.declared.fault.Quorum.TheVariants.{Read, Write}
use Rattle.plan.specs.declared.fault.PlanFault.{PlanFault}
use Rattle.plan.specs.PlanData.{ConfigurationData}
use Rattle.plan.specs.PlanText.{◌>=>◌, in_text, in_quorum, Fields, fields_of, parent_of, lists_of, certificate_or_null, step_of, configuration_in}
use Rattle.plan.specs.Rewriting.{fields_object, meets_value, step_value, configuration_written}
use Rattle.std.proofs.lemmas.Grind.{common_steps}

-- ---- what steps that went well gave

pub then_ok : {A B : Type 0} (r : Result A PlanFault) (f : A → Result B PlanFault) (b : B) → (r >=> f) ≡ Ok b → (a : A) × (r ≡ Ok a) × (f a ≡ Ok b)
then_ok (Ok a) f b h = (a, refl, h)
then_ok (Err e) f b h = absurd (cc)

pub bind_ok : {A B : Type 0} (r : Result A Fault) (f : A → Result B Fault) (b : B) → (r >>= f) ≡ Ok b → (a : A) × (r ≡ Ok a) × (f a ≡ Ok b)
bind_ok (Ok a) f b h = (a, refl, h)
bind_ok (Err e) f b h = absurd (cc)

pub text_ok : {A : Type 0} (r : Result A Fault) (a : A) → in_text r ≡ Ok a → r ≡ Ok a
text_ok (Ok x) a h = (cc)
text_ok (Err e) a h = absurd (cc)

pub ok_is : {A E : Type 0} (x y : A) → ◌≡◌ {A = Result A E} (Ok x) (Ok y) → x ≡ y
ok_is x y h = (cc)

pub if_ok : {A : Type 0} (b : Bool) (x y : A) (e : Fault) → (if b then Ok x else Err e) ≡ Ok y → (b ≡ true) × (x ≡ y)
if_ok true x y e h = (refl, cc)
if_ok false x y e h = absurd (cc)

-- where one step goes well, and so does what follows it, with another outcome
then_kept : {A B : Type 0} (r r' : Result A PlanFault) (f f' : A → Result B PlanFault) (b b' : B) → r' ≡ r → ((a : A) → f a ≡ Ok b → f' a ≡ Ok b') → (r >=> f) ≡ Ok b → (r' >=> f') ≡ Ok b'
then_kept (Ok a) r' f f' b b' same next h = ap (λ s. s >=> f') same ∙ next a h
then_kept (Err e) r' f f' b b' same next h = absurd (cc)

-- ---- how deep parts nest

pub found_ok : (o : Option Data) (v : Data) → found_or_malformed o ≡ Ok v → o ≡ Some v
found_ok None v h = absurd (cc)
found_ok (Some d) v h = (cc)

member-at : (o : Ordering) (rest : Option Data) (e v : Data) (n : ℕ) → match_ordering o rest (Some e) rest ≡ Some v → (rest ≡ Some v → depth v ≤ n) → depth v ≤ max (depth e) n
member-at Less rest e v n h below = omega (arith, below h)
member-at Equal rest e v n h below = grind (arith, common_steps)
member-at Greater rest e v n h below = omega (arith, below h)

member-nests : (k : List ℕ) (ms : Members) (v : Data) → get_member k ms ≡ Some v → depth v ≤ members_depth ms
member-nests k no_members v h = absurd (cc)
member-nests k (member l e ms) v h = member-at (slice_cmp nat_cmp k l) (get_member k ms) e v (members_depth ms) h (member-nests k ms v)

get-nests : (k : List ℕ) (d v : Data) → get k d ≡ Some v → depth v < depth d
get-nests k (object ms) v h = omega (arith, member-nests k ms v h)
get-nests k d v h = absurd (cc)

pub key-nests : (k : List ℕ) (d v : Data) → at_key k d ≡ Ok v → depth v < depth d
key-nests k d v h = get-nests k d v (found_ok (get k d) v h)

pub array-nests : (d : Data) (ds : Items) → array_of d ≡ Ok ds → items_depth ds < depth d
array-nests (array es) ds h = grind (arith, common_steps)
array-nests d ds h = absurd (cc)

-- the values that a configuration keeps
record Kept (n : ℕ) (f : Fields) : Type 0 where
  parent : depth f.parent < n
  members : depth f.members < n
  full : depth f.full < n
  read : depth f.read < n
  write : depth f.write < n

abbrev to_write : Data → Data → Data → Data → Data → Data → Result Fields Fault
to_write d parent members full reads writes =
    at_key (codes "meets") d >>= λ meets. at_key (codes "step") d >>= λ step. Ok (record { parent = parent; members = members; full = full; read = reads; write = writes; meets = meets; step = step })

fields-nest : (d : Data) (f : Fields) → fields_of d ≡ Ok f → Kept (depth d) f
unfolding fields_of
fields-nest d f h = grind (arith, common_steps, bind_ok, codes, to_write, Ok, ok_is, key-nests)

-- ---- a configuration

abbrev made : Option ℕ → Lists → Formula → Formula → Option Rule → Option Rule → ConfigurationData
made parent lists reads writes meets step = record { parent = parent; members = lists.members; full = lists.full; read = reads; write = writes; meets = meets; step = step }

abbrev from_writes : ℕ → Fields → Option ℕ → Lists → Formula → Formula → Result ConfigurationData PlanFault
from_writes c f parent lists reads writes = in_text (certificate_or_null f.meets) >=> λ meets. in_text (step_of c f.step) >=> λ step. Ok (made parent lists reads writes meets step)

abbrev from_reads : Bool → ℕ → ℕ → Fields → Option ℕ → Lists → Formula → Result ConfigurationData PlanFault
from_reads w g c f parent lists reads = in_quorum g c Write (expression_in lists f.write) >=> from_writes c f parent lists reads

abbrev from_lists : Bool → ℕ → ℕ → Fields → Option ℕ → Lists → Result ConfigurationData PlanFault
from_lists w g c f parent lists = in_quorum g c Read (expression_in lists f.read) >=> from_reads w g c f parent lists

abbrev from_parent : Bool → ℕ → ℕ → Fields → Option ℕ → Result ConfigurationData PlanFault
from_parent w g c f parent = in_text (lists_of w f) >=> from_lists w g c f parent

abbrev from_fields : Bool → ℕ → ℕ → Fields → Result ConfigurationData PlanFault
from_fields w g c f = in_text (parent_of f.parent) >=> from_parent w g c f

lists_kept : (w : Bool) (f : Fields) (meets step : Data) → lists_of w (record f { meets = meets; step = step }) ≡ lists_of w f
unfolding lists_of
lists_kept w f meets step = refl

pub fields_of-object : (f : Fields) (meets step : Data) → fields_of (fields_object f meets step) ≡ Ok (record f { meets = meets; step = step })
unfolding fields_of
fields_of-object f meets step = refl

last : (c : ℕ) (f : Fields) (meets step : Data) (parent : Option ℕ) (lists : Lists) (reads writes : Formula) (m s : Option Rule) (x : ConfigurationData) (old_m old_s : Result (Option Rule) PlanFault) → certificate_or_null meets ≡ Ok m → step_of c step ≡ Ok s
    → (old_m >=> λ a. old_s >=> λ b. Ok (made parent lists reads writes a b)) ≡ Ok x
    → from_writes c (record f { meets = meets; step = step }) parent lists reads writes ≡ Ok (record x { meets = m; step = s })
last c f meets step parent lists reads writes m s x (Ok a) (Ok b) em es h = grind (arith, common_steps)
last c f meets step parent lists reads writes m s x (Ok a) (Err e) em es h = absurd (cc)
last c f meets step parent lists reads writes m s x (Err e) old em es h = absurd (cc)

kept : (w : Bool) (g c : ℕ) (f : Fields) (meets step : Data) (m s : Option Rule) (x : ConfigurationData) → certificate_or_null meets ≡ Ok m → step_of c step ≡ Ok s → from_fields w g c f ≡ Ok x
    → from_fields w g c (record f { meets = meets; step = step }) ≡ Ok (record x { meets = m; step = s })
kept w g c f meets step m s x em es = grind (arith, common_steps, then_kept, from_parent, from_lists, lists_kept, from_reads, from_writes, last)

object-nests : (n : ℕ) (f : Fields) (meets step : Data) → Kept n f → depth meets < n → depth step < n → depth (fields_object f meets step) ≤ n
object-nests n f meets step k h l = omega (arith, k.parent, k.members, k.full, k.read, k.write)

-- a value that was written for another, how it is read, and how deep it nests
pub record Rewritten (old : Data) (written : Data → Type 0) (reads : Data → Type 0) (most : ℕ) : Type 0 where
  pub value : Data
  pub is : written value
  pub read : reads value
  pub nests : (n : ℕ) → depth old ≤ n → most ≤ n → depth value ≤ n

pub configuration-reread : (w : Bool) (g c : ℕ) (d : Data) (x : ConfigurationData) (vs : List Data) (m s : Option Rule) → certificate_or_null (meets_value c vs) ≡ Ok m → step_of c (step_value c vs) ≡ Ok s → depth (meets_value c vs) ≤ 81 → depth (step_value c vs) ≤ 81
    → configuration_in w g c d ≡ Ok x → Rewritten d (λ y. configuration_written c d vs ≡ Ok y) (λ y. configuration_in w g c y ≡ Ok (record x { meets = m; step = s })) 82
unfolding configuration_in configuration_written
configuration-reread w g c d x vs m s em es dm ds h =
    let f = then_ok (in_text (fields_of d)) (from_fields w g c) x h in
    let is : fields_of d ≡ Ok f.0 = text_ok (fields_of d) f.0 f.1 in
    let y : Data = fields_object f.0 (meets_value c vs) (step_value c vs) in
    record {
      value = y;
      is = (λ i. is i >>= λ f. Ok (fields_object f (meets_value c vs) (step_value c vs)));
      read = (λ i. in_text (fields_of-object f.0 (meets_value c vs) (step_value c vs) i) >=> from_fields w g c) ∙ kept w g c f.0 (meets_value c vs) (step_value c vs) m s x em es f.2;
      nests = λ n h k. object-nests n f.0 (meets_value c vs) (step_value c vs) (fields-up n f.0 (fields-nest d f.0 is) h) (omega arith) (omega arith);
    }
  where
    fields-up : (n : ℕ) (f : Fields) → Kept (depth d) f → depth d ≤ n → Kept n f
    fields-up n f k h = record { parent = omega (arith, k.parent); members = omega (arith, k.members); full = omega (arith, k.full); read = omega (arith, k.read); write = omega (arith, k.write) }
