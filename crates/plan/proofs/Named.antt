-- Whether a plan names a member.
use Rattle.std.proofs.Common.{◌≡◌, ℕ, zero, suc, ◌<◌, ◌≤◌, List, [], ◌∷◌, length, get_or, map, arith, refl, ap, ◌∙◌, sym, Bool, true, false, ◌&&◌, ◌==◌, nat_lt}
use Rattle.std.proofs.lemmas.Bool.{cases_lt}
use Rattle.std.proofs.lemmas.Bool.Decides.{nat_tests}
use Rattle.std.proofs.lemmas.List.{length-map}
use Rattle.std.specs.Ordering.{nat_cmp}
use Rattle.std.specs.FinSet.{contains, empty, contains-empty}
use Rattle.volume_model.specs.Common.{any, some_below, listed, has_member, is_full, is_named}
use Rattle.volume_model.specs.Plan as model
use Rattle.plan.specs.declared.configurations.Group.{Group}
use Rattle.plan.specs.declared.configurations.Plan.{Plan}
use Rattle.plan.specs.declared.configurations.Configuration.{Configuration}
use Rattle.plan.specs.PlanData.{PlanData, no_configuration, configuration_at, group_at, model_of, shown}
use Rattle.plan.specs.Plan.{configuration_data, group_data, plan_data}
use Rattle.plan.specs.CheckedModel.{Shows}
use Rattle.plan.proofs.Lookups.{any-listed, contains-below}
use Rattle.std.proofs.lemmas.Grind.{common_steps}
use Rattle.std.proofs.Common.{rules}

lt_true : (i n : ℕ) → i < n → nat_lt i n ≡ true
lt_true i n h = grind (arith, nat_tests)

lt_false : (i n : ℕ) → n ≤ i → nat_lt i n ≡ false
lt_false i n h = grind (arith, nat_tests)

-- the group at hand
pub group-is : (plan : Plan) (xs : List Group) (i g : ℕ) (x : Group) → xs ≡ plan.groups.items → i ≡ g → i < length xs → x ≡ get_or xs i x → group_at (plan_data plan) g ≡ group_data x
group-is plan xs i g x same is h at = grind (arith, common_steps)

pub names-in : (plan : Plan) (xs : List Group) (i g m : ℕ) (x : Group) → xs ≡ plan.groups.items → i ≡ g → i < length xs → x ≡ get_or xs i x
    → some_below (length (group_data x)) (λ c. nat_lt m 64 && contains (configuration_at (group_data x) c).members m) ≡ is_named (model_of (plan_data plan)) g m
names-in plan xs i g m x same is h at = search (rules, group-is, lt_true, length-map, any-listed)

pub member-shown : (x : Configuration) (y : model.Configuration) (m : ℕ) (b : Bool) → Shows x y → b ≡ contains x.members m → ((z : ℕ) → contains x.members z ≡ true → z < 64) → b ≡ has_member y m
member-shown x y m b shows is below = is ∙ contains-below x.members m below ∙ sym (any-listed x.members m) ∙ ap (any (λ z. z == m)) shows.members

pub full-shown : (x : Configuration) (y : model.Configuration) (m : ℕ) (b : Bool) → Shows x y → b ≡ contains x.full m → ((z : ℕ) → contains x.full z ≡ true → z < 64) → b ≡ is_full y m
full-shown x y m b shows is below = is ∙ contains-below x.full m below ∙ sym (any-listed x.full m) ∙ ap (any (λ z. z == m)) shows.full

pub shown-member : (plan : Plan) (g m : ℕ) (epoch : ℕ) (x : Configuration) (b : Bool) → g < length (map group_data plan.groups.items) → Shows x (shown epoch (configuration_at (group_at (plan_data plan) g) 0)) → b ≡ contains x.members m → ((y : ℕ) → contains x.members y ≡ true → y < 64)
    → b ≡ (nat_lt g (length (map group_data plan.groups.items)) && has_member (shown epoch (configuration_at (group_at (plan_data plan) g) 0)) m)
shown-member plan g m epoch x b h shows is below = grind (arith, common_steps, (member-shown x (shown epoch (configuration_at (group_at (plan_data plan) g) 0)) m b shows is below), (lt_true g _ h))

-- each group has a root
root-there : (gs : List Group) (g : ℕ) → g < length (map group_data gs) → 0 < length (get_or (map group_data gs) g [])
root-there [] g h = absurd (omega arith)
root-there (x ∷ xs) zero h = omega (arith, x.some, length-map x.configurations.items configuration_data)
root-there (x ∷ xs) (suc g) h = root-there xs g (omega arith)

pub root-of : (plan : Plan) (g : ℕ) → g < length (map group_data plan.groups.items) → 0 < length (group_at (plan_data plan) g)
root-of plan g h = root-there plan.groups.items g h

pub no-root : (plan : Plan) (g : ℕ) (b : Bool) → (g < length (map group_data plan.groups.items) → 0 < length (group_at (plan_data plan) g) → ⊥) → false ≡ (nat_lt g (length (map group_data plan.groups.items)) && b)
no-root plan g b none = grind (arith, common_steps, cases_lt, root-of, lt_false)

-- where there is no such group or no such configuration
pub not-there : (plan : PlanData) (g c : ℕ) → (g < length plan.groups → c < length (group_at plan g) → ⊥) → configuration_at (group_at plan g) c ≡ no_configuration
not-there plan g c none = grind (arith, common_steps)

and_false : (b : Bool) → (b && false) ≡ false
and_false true = refl
and_false false = refl

none_listed : (m : ℕ) → false ≡ any (λ z. z == m) (listed (empty {R = nat_cmp}))
none_listed m = sym (any-listed (empty {R = nat_cmp}) m ∙ ap (λ b. nat_lt m 64 && b) (contains-empty nat_cmp m) ∙ and_false (nat_lt m 64))

pub no-member : (plan : Plan) (g c m : ℕ) → (g < length (map group_data plan.groups.items) → c < length (group_at (plan_data plan) g) → ⊥) → false ≡ has_member ((model_of (plan_data plan)).configuration g c) m
no-member plan g c m none = none_listed m ∙ ap (λ x. any (λ z. z == m) (listed x.members)) (sym (not-there (plan_data plan) g c none))

pub no-full : (plan : Plan) (g c m : ℕ) → (g < length (map group_data plan.groups.items) → c < length (group_at (plan_data plan) g) → ⊥) → false ≡ is_full ((model_of (plan_data plan)).configuration g c) m
no-full plan g c m none = none_listed m ∙ ap (λ x. any (λ z. z == m) (listed x.full)) (sym (not-there (plan_data plan) g c none))
