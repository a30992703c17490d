-- Values that a definition gives one after another, put in a list.
use Rattle.std.proofs.Common.{◌≡◌, ℕ, ◌+◌, ◌-◌, ◌*◌, List, [], ◌∷◌, ◌++◌, drop, refl, ap, sym, ◌∙◌, append_assoc, Result, Ok, Err, codes, Option, option_map}
use Rattle.json.specs.Token.{begin_array, end_array, end_object}
use Rattle.json.specs.Written.{Written}
use Rattle.std.specs.declared.alloc.Global.{Global}
use Rattle.std.proofs.lemmas.List.{drop-map}
use Rattle.serde_json.specs.Data.{Data, array, object, Items, no_items, item, no_members, member}
use Rattle.serde_json.specs.Events.{items_len}
use Rattle.serde_json.specs.View.{items_of}
use Rattle.volume_model.specs.declared.fault.Fault.{Fault}
use Rattle.volume_model.specs.Common.{◌>>=◌}
use Rattle.plan.specs.declared.formats.Format.{Format}
use Rattle.plan.specs.declared.formats.Format.TheVariants.{Plain, Weighted, Growing}
use Rattle.plan.specs.Formats.{number_of}
use Rattle.plan.specs.PlanText.{Fields, fields_of, group_items, Header, header_of}
use Rattle.refutation.specs.Common.{number_data, certificate_rule}
use Rattle.plan.specs.Rewriting.{fields_object, meets_value, step_value, configuration_written, configurations_written, group_object, group_written, groups_written, plan_object, plan_written}
use Rattle.refutation.specs.declared.certificate.Certificate.{Certificate}
use Rattle.plan.specs.Certificates.{certificate_value, certificate_values}
use Rattle.plan.specs.Puts.{Puts, PutsToken, PutsMember, Opens, Lists}
use Rattle.plan.specs.PutPlans.{PutsMade, configurations_array, groups_array, born_members}
use Rattle.plan.proofs.Joined.{joined}
use Rattle.plan.proofs.Putting.{one_listed, listed, one_more, closed}
use Rattle.std.proofs.lemmas.Grind.{common_steps}
use Rattle.std.proofs.Common.{arith}

abbrev pub after_front : List Data → Result (List Data) Fault → Result (List Data) Fault
after_front front made = made >>= λ xs. Ok (front ++ xs)

front-more : (front : List Data) (y : Data) (r : Result (List Data) Fault) → after_front front (r >>= λ xs. Ok (y ∷ xs)) ≡ after_front (front ++ y ∷ []) r
front-more front y (Ok xs) = ap Ok (sym (append_assoc front (y ∷ []) xs))
front-more front y (Err e) = refl

items-joined : (ds : List Data) → items_of ds ≡ joined ds no_items
items-joined [] = refl
items-joined (d ∷ ds) = ap (item d) (items-joined ds)

-- A list was begun, and has all values that are made except the rest.
pub record Makes (all rest : Result (List Data) Fault) (start now : Written) : Type 0 where
  pub ds : List Data
  pub lists : Lists ds start now
  pub so_far : after_front ds rest ≡ all

pub makes_more : (all rest more : Result (List Data) Fault) (x : Data) (start mid new : Written) → Makes all rest start mid → rest ≡ (more >>= λ xs. Ok (x ∷ xs)) → Puts x mid new → Makes all more start new
makes_more all rest more x start mid new m is p = grind (arith, common_steps, one_listed, front-more, after_front)

pub makes_done : (all rest : Result (List Data) Fault) (start now new : Written) → Makes all rest start now → rest ≡ Ok [] → PutsToken end_array now new → PutsMade (all >>= λ xs. Ok (array (items_of xs))) start new
makes_done all rest start now new m none t = grind (arith, common_steps, (items-joined m.ds), (listed m.ds start now new m.lists t))

-- ---- configurations and groups

pub made-configuration : (n : ℕ) (d : Data) (f : Fields) (cs : List Data) → fields_of d ≡ Ok f → configuration_written n d cs ≡ Ok (fields_object f (meets_value n cs) (step_value n cs))
unfolding configuration_written
made-configuration n d f cs e = rw e refl

pub made-next : (n : ℕ) (d x : Data) (ds : Items) (cs : List Data) → configuration_written n d cs ≡ Ok x → configurations_written n (item d ds) cs ≡ (configurations_written (n + 1) ds cs >>= λ xs. Ok (x ∷ xs))
made-next n d x ds cs e = ap (λ r. r >>= λ y. configurations_written (n + 1) ds cs >>= λ xs. Ok (y ∷ xs)) e

pub made-group : (d x : Data) (ds cs : Items) (vs : List Data) → group_items d ≡ Ok cs → group_written cs vs ≡ Ok x → groups_written (item d ds) vs ≡ (groups_written ds (drop (2 * items_len cs - 1) vs) >>= λ xs. Ok (x ∷ xs))
made-group d x ds cs vs e made = grind (arith, common_steps)

pub made-object : (r : Result (List Data) Fault) (v : Data) → (r >>= λ xs. Ok (array (items_of xs))) ≡ Ok v → (r >>= λ xs. Ok (group_object xs)) ≡ Ok (object (member (codes "configurations") v no_members))
made-object (Ok xs) v h = let same : array (items_of xs) ≡ v = cc in ap (λ x. Ok (object (member (codes "configurations") x no_members))) same
made-object (Err e) v h = absurd (cc)

pub made-whole : (ds : Items) (cs : List Data) (v : Data) → configurations_array ds cs ≡ Ok v → group_written ds cs ≡ Ok (object (member (codes "configurations") v no_members))
unfolding group_written
made-whole ds cs v h = made-object (configurations_written 0 ds cs) v h

-- those that others leave
pub values-after : (n m : ℕ) (cs rest : List (Option (Certificate Global))) → n ≡ m → rest ≡ drop n cs → drop m (certificate_values cs) ≡ certificate_values rest
values-after n m cs rest same is = ap (λ k. drop k (certificate_values cs)) (sym same) ∙ drop-map (λ c. certificate_value (option_map certificate_rule c)) n cs ∙ ap certificate_values (sym is)

-- ---- the whole

abbrev pub object_of : Format → ℕ → ℕ → Data → Data
object_of Plain lal born v = object (member (codes "format") (number_data (number_of Plain)) (member (codes "groups") v (member (codes "lal") (number_data lal) no_members)))
object_of Weighted lal born v = object (member (codes "format") (number_data (number_of Weighted)) (member (codes "groups") v (member (codes "lal") (number_data lal) no_members)))
object_of Growing lal born v = object (member (codes "born") (number_data born) (member (codes "format") (number_data (number_of Growing)) (member (codes "groups") v (member (codes "lal") (number_data lal) no_members))))

same-object : (format : Format) (lal born : ℕ) (xs : List Data) → plan_object format lal born xs ≡ object_of format lal born (array (items_of xs))
same-object Plain lal born xs = refl
same-object Weighted lal born xs = refl
same-object Growing lal born xs = refl

made-at : (format : Format) (lal born : ℕ) (r : Result (List Data) Fault) (v : Data) → (r >>= λ xs. Ok (array (items_of xs))) ≡ Ok v → (r >>= λ xs. Ok (plan_object format lal born xs)) ≡ Ok (object_of format lal born v)
made-at format lal born (Ok xs) v h = let same : array (items_of xs) ≡ v = cc in ap Ok (same-object format lal born xs ∙ ap (object_of format lal born) same)
made-at format lal born (Err e) v h = absurd (cc)

pub made-plan : (d : Data) (h : Header) (cs : List Data) (v : Data) → header_of d ≡ Ok h → groups_array h.groups cs ≡ Ok v → plan_written d cs ≡ Ok (object_of h.format h.lal h.born v)
unfolding plan_written
made-plan d h cs v e g = ap (λ (r : Result Header Fault). r >>= λ x. groups_written x.groups cs >>= λ xs. Ok (plan_object x.format x.lal x.born xs)) e ∙ made-at h.format h.lal h.born (groups_written h.groups cs) v g

pub plan-put : (format : Format) (lal born : ℕ) (v : Data) (start w1 w2 w3 w4 new : Written) → Opens (born_members format born) start w1 → PutsMember (codes "format") (number_data (number_of format)) w1 w2 → PutsMember (codes "groups") v w2 w3 → PutsMember (codes "lal") (number_data lal) w3 w4 → PutsToken end_object w4 new → Puts (object_of format lal born v) start new
plan-put Plain lal born v start w1 w2 w3 w4 new o f g l t =
    let m1 = one_more no_members (codes "format") (number_data (number_of Plain)) start w1 w2 refl o f in
    let m2 = one_more _ (codes "groups") v start w2 w3 refl m1 g in
    closed _ start w4 new (one_more _ (codes "lal") (number_data lal) start w3 w4 refl m2 l) t
plan-put Weighted lal born v start w1 w2 w3 w4 new o f g l t =
    let m1 = one_more no_members (codes "format") (number_data (number_of Weighted)) start w1 w2 refl o f in
    let m2 = one_more _ (codes "groups") v start w2 w3 refl m1 g in
    closed _ start w4 new (one_more _ (codes "lal") (number_data lal) start w3 w4 refl m2 l) t
plan-put Growing lal born v start w1 w2 w3 w4 new o f g l t =
    let m1 = one_more (member (codes "born") (number_data born) no_members) (codes "format") (number_data (number_of Growing)) start w1 w2 refl o f in
    let m2 = one_more _ (codes "groups") v start w2 w3 refl m1 g in
    closed _ start w4 new (one_more _ (codes "lal") (number_data lal) start w3 w4 refl m2 l) t
