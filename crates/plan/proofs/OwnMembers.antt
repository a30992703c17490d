-- An expression that was read names none but members.
use Rattle.std.proofs.Common.{◌≡◌, ℕ, zero, suc, ◌+◌, List, [], ◌∷◌, ◌++◌, map, Result, Ok, Err, refl, ap, ◌∙◌, sym, subst, Bool, true, false, not, ◌&&◌, if◌then◌else◌}
use Rattle.std.proofs.lemmas.Bool.{and_parts, and_from}
use Rattle.std.proofs.lemmas.List.{map-append}
use Rattle.std.specs.Cmp.{nat_cmp_total}
use Rattle.std.specs.FinSet.{contains, is_subset, contains-difference, is_subset-contains}
use Rattle.serde_json.specs.Data.{Data, Items, no_items, item}
use Rattle.volume_model.specs.declared.fault.Fault.{Fault}
use Rattle.volume_model.specs.declared.fault.Fault.TheVariants.{TooDeep}
use Rattle.volume_model.specs.Common.{◌>>=◌, Formula, each_once, each_below, listed}
use Rattle.volume_model.specs.Formula.{member}
use Rattle.quorum_expr.specs.declared.form.Lists.{Lists}
use Rattle.quorum_expr.specs.declared.form.ListName.{ListName}
use Rattle.quorum_expr.specs.declared.form.ListName.TheVariants.{All, Full, Tail}
use Rattle.quorum_expr.specs.Common.{ChildList, each, named, Weights, weighing, Form, single, choice, set_of, form_of, each_of, members_at, children_at, formula_from, formula_at, expression_in}
use Rattle.plan.specs.PlanData.{names_only, each_names_only}
use Rattle.std.proofs.lemmas.Grind.{common_steps}
use Rattle.std.proofs.Common.{arith}

-- what an answer has, if there is one
abbrev OkHas : {A : Type 0} → (A → Type 0) → Result A Fault → Type 0
OkHas P (Ok x) = P x
OkHas P (Err e) = Unit {0}

bind_has : {A B : Type 0} (r : Result A Fault) (f : A → Result B Fault) (P : B → Type 0) → ((x : A) → r ≡ Ok x → OkHas P (f x)) → OkHas P (r >>= f)
bind_has (Ok x) f P h = h x refl
bind_has (Err e) f P h = tt

has_at : {A : Type 0} (r : Result A Fault) (P : A → Type 0) (x : A) → OkHas P r → r ≡ Ok x → P x
has_at r P x h is = subst (OkHas P) is h

if_has : {A : Type 0} (b : Bool) (r s : Result A Fault) (P : A → Type 0) → (b ≡ true → OkHas P r) → OkHas P s → OkHas P (if b then r else s)
if_has true r s P h k = h refl
if_has false r s P h k = k

module _ (lists : Lists) (within : is_subset lists.full lists.members ≡ true) where
  -- the formula names members alone
  abbrev Own : Formula → Type 0
  Own f = names_only f lists.members ≡ true

  -- each of the formulas does
  abbrev AllOwn : List Formula → Type 0
  AllOwn fs = each_names_only (each_once fs) lists.members ≡ true

  -- whatever they weigh
  own-weighing : (ws : Weights) (i : ℕ) (fs : List Formula) → each_names_only (weighing ws i fs) lists.members ≡ each_names_only (each_once fs) lists.members
  own-weighing ws i [] = refl
  own-weighing ws i (f ∷ fs) = ap (λ b. names_only f lists.members && b) (own-weighing ws (i + 1) fs)

  in-named : (name : ListName) (x : ℕ) → contains (set_of lists name) x ≡ true → contains lists.members x ≡ true
  in-named All x h = h
  in-named Full x h = is_subset-contains nat_cmp_total lists.full lists.members within x h
  in-named Tail x h = (and_parts (contains lists.members x) (not (contains lists.full x)) (sym (contains-difference nat_cmp_total lists.members lists.full x) ∙ h)).0

  own-append : (fs gs : List Formula) → AllOwn fs → AllOwn gs → AllOwn (fs ++ gs)
  own-append [] gs h k = k
  own-append (f ∷ fs) gs h k =
      let parts = and_parts (names_only f lists.members) (each_names_only (each_once fs) lists.members) h in
      and_from (names_only f lists.members) (each_names_only (each_once (fs ++ gs)) lists.members) parts.0 (own-append fs gs parts.1 k)

  own-listed : (n : ℕ) (test : ℕ → Bool) → ((x : ℕ) → test x ≡ true → contains lists.members x ≡ true) → AllOwn (map member (each_below n test (λ x. x)))
  own-listed zero test h = refl
  own-listed (suc n) test h = grind (arith, common_steps, AllOwn, map-append, own-append, and_from, (own-listed n test h))

  own-members : (left : ℕ) (name : ListName) → OkHas AllOwn (members_at left (listed (set_of lists name)))
  own-members zero name = tt
  own-members (suc left) name = own-listed 64 (contains (set_of lists name)) (in-named name)

  own-each : (read : Data → Result Formula Fault) → ((d : Data) → OkHas Own (read d)) → (ds : Items) → OkHas AllOwn (each_of read ds)
  own-each read h no_items = refl
  own-each read h (item d ds) = grind (arith, common_steps, bind_has, Ok, AllOwn, and_from, has_at, Own, (own-each read h ds))

  own-children : (left : ℕ) (read : Data → Result Formula Fault) → ((d : Data) → OkHas Own (read d)) → (list : ChildList) → OkHas AllOwn (children_at lists left read list)
  own-children left read h (each ds) = own-each read h ds
  own-children left read h (named name) = own-members left name

  own-from : (left : ℕ) (read : Data → Result Formula Fault) → ((d : Data) → OkHas Own (read d)) → (form : Form) → OkHas Own (formula_from lists left read form)
  own-from left read h (single n) = grind (arith, common_steps)
  own-from left read h (choice k list ws) = grind (arith, common_steps, if_has, Ok, Err, Own, bind_has, own-weighing, has_at, AllOwn, own-children)

  own-at : (left : ℕ) (d : Data) → OkHas Own (formula_at lists left d)
  unfolding formula_at
  own-at zero d = bind_has (form_of lists d) (λ form. Err TooDeep) Own (λ form is. tt)
  own-at (suc left) d = bind_has (form_of lists d) (formula_from lists left (formula_at lists left)) Own (λ form is. own-from left (formula_at lists left) (own-at left) form)

  pub own-read : (d : Data) (f : Formula) → expression_in lists d ≡ Ok f → names_only f lists.members ≡ true
  unfolding expression_in
  own-read d f is = grind (arith, common_steps, has_at, Own, bind_has, Ok, Err, if_has, own-at)
