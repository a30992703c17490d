-- A fresh member is used again exactly where one stands in a configuration above.
use Rattle.std.proofs.Common.{◌≡◌, ℕ, zero, suc, ◌<◌, ◌≤◌, List, [], ◌∷◌, arith, refl, ap, ◌∙◌, sym, ◌++◌, Bool, true, false, not, if◌then◌else◌, Option, Some, None, slice_get}
use Rattle.std.proofs.lemmas.Bool.{and_from, both_ways, cases_lt, false_from_ne_true}
use Rattle.std.specs.Ordering.{nat_cmp}
use Rattle.std.specs.Cmp.{nat_cmp_total}
use Rattle.std.specs.FinSet.{FinSet, empty, contains, difference, contains-empty, contains-difference}
use Rattle.volume_model.specs.Common.{each_below, listed}
use Rattle.quorum_expr.proofs.MemberLists.{first_listed}
use Rattle.plan.specs.declared.fault.PlanFault.TheVariants.{MemberReused}
use Rattle.plan.specs.PlanData.{ConfigurationData, configuration_at, earlier, parent_at, by_parent}
use Rattle.plan.specs.PlanFaults.{fresh_at, unused_within, reused_at, reused_member, reuse_fault}
use Rattle.plan.specs.Reused.{IsAboveIn, IsReused, IsLeastReused, ReuseIsFound}
use Rattle.volume_model.specs.Plan.StandsAbove.{by_parent as is_parent, by_ancestor as is_ancestor}
use Rattle.plan.proofs.Epochs.{earlier-below}
use Rattle.plan.proofs.FreshMembers.{in-difference, unused-within, nobody, nobody_below}
use Rattle.std.proofs.lemmas.Grind.{common_steps}

-- ---- what is left of a set

-- who is left out of a set stands in a configuration above
left_out : (n : ℕ) (group : List ConfigurationData) (c : ℕ) (s : FinSet nat_cmp) (x : ℕ) → contains s x ≡ true → contains (unused_within n group c s) x ≡ false
    → (a : ℕ) × IsAboveIn group a c × (contains (configuration_at group a).members x ≡ true)
left_out zero group c s x there out = absurd (both_ways (contains s x) out there)
left_out (suc n) group c s x there out =
    elim (parent_at group c) as (λ q. parent_at group c ≡ q → contains (by_parent q s (λ p. unused_within n group p (difference s (configuration_at group p).members))) x ≡ false
    → (a : ℕ) × IsAboveIn group a c × (contains (configuration_at group a).members x ≡ true)) [
      | None ↦ λ is none. absurd (both_ways (contains s x) none there)
      | Some p ↦ λ is some.
          elim (contains (configuration_at group p).members x) as (λ b. contains (configuration_at group p).members x ≡ b → (a : ℕ) × IsAboveIn group a c × (contains (configuration_at group a).members x ≡ true)) [
            | true ↦ λ has. (p, is_parent p c is, has)
            | false ↦ λ lacks. (
                let kept : contains (difference s (configuration_at group p).members) x ≡ true =
                contains-difference nat_cmp_total s (configuration_at group p).members x ∙ and_from (contains s x) (not (contains (configuration_at group p).members x)) there (ap not lacks) in
                let (a, up, has) = left_out n group p (difference s (configuration_at group p).members) x kept some in
                (a, is_ancestor a p c is up, has))
          ] refl
    ] refl out

-- and who stands in a configuration above is left out
taken_out : (n : ℕ) (group : List ConfigurationData) (s : FinSet nat_cmp) (x a c : ℕ) → c ≤ n → IsAboveIn group a c → contains (configuration_at group a).members x ≡ true → contains (unused_within n group c s) x ≡ false
taken_out zero group s x a c within (is_parent b d is) has = absurd (let lt : b < d = earlier-below d (configuration_at group d).parent b is in omega arith)
taken_out zero group s x a c within (is_ancestor b p d is up) has = absurd (let lt : p < d = earlier-below d (configuration_at group d).parent p is in omega arith)
taken_out (suc n) group s x a c within (is_parent b d is) has = grind (arith, common_steps, false_from_ne_true, both_ways, in-difference, unused-within)
taken_out (suc n) group s x a c within (is_ancestor b p d is up) has =
    let lt : p < d = earlier-below d (configuration_at group d).parent p is in
    grind (arith, common_steps, (taken_out n group (difference s (configuration_at group p).members) x b p (omega arith) up has))

-- ---- the members that are used again

earlier-is : (c : ℕ) (q : Option ℕ) (p : ℕ) → earlier c q ≡ Some p → q ≡ Some p
earlier-is c None p h = absurd cc
earlier-is c (Some r) p h = grind (arith, common_steps)

-- what has a configuration above has a parent
parent-under : (group : List ConfigurationData) (a c : ℕ) → IsAboveIn group a c → (p : ℕ) × ((configuration_at group c).parent ≡ Some p)
parent-under group a c (is_parent b d is) = (b, earlier-is d (configuration_at group d).parent b is)
parent-under group a c (is_ancestor b p d is up) = (p, earlier-is d (configuration_at group d).parent p is)

fresh-from : (group : List ConfigurationData) (c x : ℕ) → IsReused group c x → contains (fresh_at group c) x ≡ true
fresh-from group c x h =
    let (p, is) = parent-under group h.above.0 c h.above.1 in
    ap (λ q. contains (by_parent q empty (λ r. difference (configuration_at group c).members (configuration_at group r).members)) x) is
    ∙ contains-difference nat_cmp_total (configuration_at group c).members (configuration_at group p).members x
    ∙ and_from (contains (configuration_at group c).members x) (not (contains (configuration_at group p).members x)) h.has (ap not (h.lacked p is))

fresh-to : (group : List ConfigurationData) (c x : ℕ) → contains (fresh_at group c) x ≡ true
    → (contains (configuration_at group c).members x ≡ true) × ((p : ℕ) → (configuration_at group c).parent ≡ Some p → contains (configuration_at group p).members x ≡ false)
fresh-to group c x h =
    elim (configuration_at group c).parent as (λ q. contains (by_parent q empty (λ r. difference (configuration_at group c).members (configuration_at group r).members)) x ≡ true
    → (contains (configuration_at group c).members x ≡ true) × ((p : ℕ) → q ≡ Some p → contains (configuration_at group p).members x ≡ false)) [
      | None ↦ λ e. absurd (both_ways (contains {R = nat_cmp} empty x) (contains-empty nat_cmp x) e)
      | Some r ↦ grind (arith, common_steps, in-difference)
    ] h

reused-from : (group : List ConfigurationData) (c x : ℕ) → IsReused group c x → contains (reused_at group c) x ≡ true
reused-from group c x h =
    contains-difference nat_cmp_total (fresh_at group c) (unused_within c group c (fresh_at group c)) x
    ∙ and_from (contains (fresh_at group c) x) (not (contains (unused_within c group c (fresh_at group c)) x)) (fresh-from group c x h)
    (ap not (taken_out c group (fresh_at group c) x h.above.0 c (omega arith) h.above.1 h.above.2))

reused-to : (group : List ConfigurationData) (c x : ℕ) → x < 64 → contains (reused_at group c) x ≡ true → IsReused group c x
reused-to group c x low h = grind (arith, common_steps, in-difference, fresh-to, left_out)

-- ---- the least member of a set

-- the number is below n and passes the test, and none before it does
abbrev IsFirst : (ℕ → Bool) → ℕ → ℕ → Type 0
IsFirst test n x = (x < n) × (test x ≡ true) × ((y : ℕ) → y < x → test y ≡ false)

last_of : (test : ℕ → Bool) (n x : ℕ) (xs : List ℕ) → ((z : ℕ) → slice_get xs 0 ≡ Some z → IsFirst test n z) → (slice_get xs 0 ≡ None → (y : ℕ) → y < n → test y ≡ false)
    → slice_get (xs ++ (if test n then n ∷ [] else [])) 0 ≡ Some x → IsFirst test (suc n) x
last_of test n x (z ∷ xs) here none h =
    let same : z ≡ x = cc in
    let (low, passes, before) = here z refl in
    (let low' : z < n = low in omega arith, ap test (sym same) ∙ passes, λ y l. before y (omega arith))
last_of test n x [] here none h = grind (arith, common_steps)

first_of : (n : ℕ) (test : ℕ → Bool) (x : ℕ) → slice_get (each_below n test (λ y. y)) 0 ≡ Some x → IsFirst test n x
first_of zero test x h = absurd cc
first_of (suc n) test x h = last_of test n x (each_below n test (λ y. y)) (λ z. first_of n test z) (λ none y l. nobody_below n test y none l) h

-- ---- the fault

named : (g c x : ℕ) (found : Option ℕ) → reused_member g c found ≡ Some (MemberReused g c x) → found ≡ Some x
named g c x None h = absurd cc
named g c x (Some y) h = let same : y ≡ x = cc in ap Some same

unnamed : (g c : ℕ) (found : Option ℕ) → reused_member g c found ≡ None → found ≡ None
unnamed g c None h = refl
unnamed g c (Some y) h = absurd cc

-- the least of a list of members
abbrev found_at : List ConfigurationData → ℕ → Option ℕ
found_at group c = slice_get (listed (reused_at group c)) 0

nobody_reused : (g c : ℕ) (group : List ConfigurationData) → ((x : ℕ) → IsReused group c x → ⊥) → (found : Option ℕ) → found_at group c ≡ found → reused_member g c found ≡ None
nobody_reused g c group nobody None is = refl
nobody_reused g c group nobody (Some x) is =
    absurd (let (low, there, before) = first_of 64 (contains (reused_at group c)) x is in nobody x (reused-to group c x low there))

least_named : (g c x : ℕ) (group : List ConfigurationData) → IsLeastReused group c x → reuse_fault g group c ≡ Some (MemberReused g c x)
least_named g c x group h =
    ap (reused_member g c) (first_listed 64 x (contains (reused_at group c)) (λ y. y) h.reused.member (reused-from group c x h.reused)
    (λ y before. false_from_ne_true _ (λ there. absurd (let least : x ≤ y = h.least y (reused-to group c y (omega (arith, before, h.reused.member)) there) in omega (arith, before)))))

at_least_first : (group : List ConfigurationData) (c x y : ℕ) → ((z : ℕ) → z < x → contains (reused_at group c) z ≡ false) → IsReused group c y → x ≤ y
at_least_first group c x y before h = grind (arith, common_steps, (cases_lt y x), (reused-from group c y h))

named_least : (g c x : ℕ) (group : List ConfigurationData) → reuse_fault g group c ≡ Some (MemberReused g c x) → IsLeastReused group c x
named_least g c x group h =
    let (low, there, before) = first_of 64 (contains (reused_at group c)) x (named g c x (found_at group c) h) in
    record { reused = reused-to group c x low there; least = λ y r. at_least_first group c x y before r }

pub reuse_is_found : ReuseIsFound
reuse_is_found = record {
  none = λ g c group. (
    λ h x r. both_ways (contains (reused_at group c) x) (nobody (reused_at group c) x (unnamed g c (found_at group c) h) r.member) (reused-from group c x r),
    λ nobody. nobody_reused g c group nobody (found_at group c) refl,
  );
  some = λ g c x group. (named_least g c x group, least_named g c x group);
}
