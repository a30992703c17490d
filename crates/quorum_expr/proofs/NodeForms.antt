-- What a node spells at its own level, and rows of children that weigh one each.
use Rattle.std.proofs.Common.{◌≡◌, ℕ, zero, suc, ◌<◌, ◌≤◌, min, Bool, true, false, Some, None, Ok, Err, refl, arith, length, length-append, nat_le, is_some, if◌then◌else◌, ◌⊎◌, inl, inr}
use Rattle.std.proofs.lemmas.Bool.Decides.{nat_tests}
use Rattle.serde_json.specs.Data.{Data, null, boolean, number, string, array, object}
use Rattle.serde_json.specs.Find.{as_number}
use Rattle.quorum_expr.specs.Nodes.{keys_up_to}
use Rattle.volume_model.specs.declared.fault.Fault.TheVariants.{Malformed}
use Rattle.volume_model.specs.Common.{◌>>=◌, each_below, listed}
use Rattle.std.specs.Ordering.{nat_cmp}
use Rattle.std.specs.FinSet.{FinSet, contains}
use Rattle.quorum_expr.specs.declared.form.Lists.{Lists}
use Rattle.quorum_expr.specs.Reading.{Weights, single, whole_of, good_keys, good_row, choice_of, form_of}
use Rattle.quorum_expr.proofs.Rows.{row-long}
use Rattle.std.proofs.lemmas.Grind.{common_steps}

-- ---- a number

pub number_form : (lists : Lists) (d : Data) → is_some (as_number d) ≡ true → form_of lists d ≡ (whole_of d >>= λ m. Ok (single m))
unfolding form_of
number_form lists null h = absurd (cc)
number_form lists (boolean b) h = absurd (cc)
number_form lists (number n) h = refl
number_form lists (string s) h = absurd (cc)
number_form lists (array ds) h = absurd (cc)
number_form lists (object ms) h = absurd (cc)

-- ---- an object

pub keyed_form : (lists : Lists) (d : Data) (n : ℕ) → Some n ≡ keys_up_to 4 d → form_of lists d ≡ (if good_keys lists.is_weighted n then choice_of lists n d else Err Malformed)
unfolding form_of
keyed_form lists (object ms) n h = grind (arith, common_steps)
keyed_form lists d n h = absurd (cc)

pub no_form : (lists : Lists) (d : Data) → is_some (as_number d) ≡ false → None ≡ keys_up_to 4 d → form_of lists d ≡ Err Malformed
unfolding form_of
no_form lists (number x) h i = absurd (cc)
no_form lists (object ms) h i = absurd (cc)
no_form lists d h i = refl

-- ---- rows

few_or_many : (n : ℕ) → (n ≤ 64) ⊎ (64 < n)
few_or_many n = elim (nat_le n 64) as (λ b. nat_le n 64 ≡ b → (n ≤ 64) ⊎ (64 < n)) [ true ↦ λ e. inl (grind (arith, nat_tests, e)) | false ↦ λ e. inr (grind (arith, nat_tests, e)) ] refl

pub capped : (k n : ℕ) (ws : Weights) → good_row k (min n 65) ws ≡ good_row k n ws
capped k n ws = grind (arith, common_steps, few_or_many, min, row-long)

few_below : (n : ℕ) (test : ℕ → Bool) → length (each_below n test (λ x. x)) ≤ n
few_below zero test = omega arith
few_below (suc n) test = grind (arith, common_steps, length-append, (few_below n test))

pub few_listed : (s : FinSet nat_cmp) → min (length (listed s)) 65 ≡ length (listed s)
few_listed s = let few : length (listed s) ≤ 64 = few_below 64 (contains s) in omega (arith, few)
