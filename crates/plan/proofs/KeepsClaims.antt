-- A plan without a fault is certified.
use Rattle.std.proofs.Common.{◌≡◌, ℕ, zero, suc, ◌<◌, ◌≤◌, List, [], ◌∷◌, length, get_or, map, arith, refl, ap, ◌∙◌, sym, subst, inl, inr, Bool, true, false, not, ◌&&◌, ◌==◌, nat_lt, if◌then◌else◌, Option, Some, None}
use Rattle.std.proofs.lemmas.Bool.{cases_lt, and_parts, and_from, ltb-true, lt-ltb, false_from_ne_true}
use Rattle.std.proofs.lemmas.List.{length-map}
use Rattle.std.specs.Ordering.{nat_cmp}
use Rattle.std.specs.Cmp.{nat_cmp_total}
use Rattle.std.specs.FinSet.{FinSet, empty, contains, difference, intersection, contains-difference, contains-intersection}
use Rattle.volume_model.specs.Common.{Formula, Children, at_least, no_child, child, dual_of, SpeaksOf, EachSpeaksOf, any, listed, Meets, has_member, is_fresh, IsAbove, IsCertified, KeepsClaim, KeepsClaims, KeepsStepClaim, ClaimsCertify}
use Rattle.volume_model.specs.Formula.{member}
use Rattle.volume_model.specs.Plan.StandsAbove.{by_parent as is_parent, by_ancestor as is_ancestor}
use Rattle.quorum_expr.specs.Common.{all_members, expression_fault}
use Rattle.quorum_expr.proofs.MemberSetLaws.{contains-all_members}
use Rattle.quorum_expr.proofs.ValidLaws.{below_64, HasCounts-from, SpeaksOf-from}
use Rattle.refutation.specs.Common.{Rule}
use Rattle.quorum_checker.specs.Refutes.{Refutes, State, claim_state}
use Rattle.quorum_checker.specs.FirstFault.{first_fault}
use Rattle.quorum_checker.specs.declared.fault.FaultAt.{FaultAt}
use Rattle.plan.specs.declared.configurations.Configuration.{Configuration}
use Rattle.plan.specs.declared.configurations.Group.{Group}
use Rattle.plan.specs.declared.configurations.Plan.{Plan}
use Rattle.plan.specs.declared.fault.PlanFault.{PlanFault}
use Rattle.plan.specs.declared.fault.PlanFault.TheVariants.{BadParent}
use Rattle.plan.specs.PlanData.{ConfigurationData, PlanData, configuration_at, group_at, by_parent, epoch_at, or_zero, shown, model_of, names_only, each_names_only}
use Rattle.plan.specs.Plan.{configuration_data, group_data, plan_data}
use Rattle.plan.specs.PlanFaults.{or_then, first_below, is_good_parent, parent_fault, fresh_at, reuse_fault, certificate_fault, claim_fault, meets_claim, step_claim, meets_fault, step_fault, shape_fault, configuration_fault, group_fault, plan_fault}
use Rattle.plan.specs.CheckedModel.{HasWriteSets}
use Rattle.plan.proofs.WriteSets.{sat_all}
use Rattle.plan.proofs.Lookups.{any-listed}
use Rattle.plan.proofs.Named.{root-of}
use Rattle.plan.proofs.Epochs.{epoch-next}
use Rattle.plan.specs.Reused.{IsAboveIn}
use Rattle.plan.proofs.FreshMembers.{GoodParents, in-difference, parent-there, parent_at-is}
use Rattle.plan.proofs.Reused.{reuse_is_found}

-- ---- no fault in any part

pub neither : (a b : Option PlanFault) → or_then a b ≡ None → (a ≡ None) × (b ≡ None)
neither None b h = (refl, h)
neither (Some fault) b h = absurd (cc)

pub none-at : (n i : ℕ) (f : ℕ → Option PlanFault) → first_below n f ≡ None → i < n → f i ≡ None
none-at zero i f h lt = absurd (omega arith)
none-at (suc n) i f h lt =
    let parts = neither (first_below n f) (f n) h in
    elim (cases_lt i n) [
      | inl below ↦ none-at n i f parts.0 below
      | inr past ↦ (let same : i ≡ n = omega arith in ap f same ∙ parts.1)
    ]

pub no-fault : (plan : PlanData) (g c : ℕ) → plan_fault plan ≡ None → g < length plan.groups → c < length (group_at plan g) → configuration_fault g (group_at plan g) c ≡ None
unfolding plan_fault
no-fault plan g c h there below =
    none-at (length (group_at plan g)) c (configuration_fault g (group_at plan g)) (none-at (length plan.groups) g (λ k. group_fault k (group_at plan k)) h there) below

pub passes : (b : Bool) (fault : PlanFault) → (if b then None else Some fault) ≡ None → b ≡ true
passes true fault h = refl
passes false fault h = absurd (cc)

pub no-certificate_fault : (g c : ℕ) (step : Bool) (found : Option FaultAt) → certificate_fault g c step found ≡ None → found ≡ None
no-certificate_fault g c step None h = refl
no-certificate_fault g c step (Some at) h = absurd (cc)

refuted : (g c : ℕ) (step : Bool) (certificate : Option Rule) (claim : State) → claim_fault g c step certificate claim ≡ None → (rule : Rule) × (first_fault rule claim ≡ None)
refuted g c step None claim h = absurd (cc)
refuted g c step (Some rule) claim h = (rule, no-certificate_fault g c step (first_fault rule claim) h)

-- ---- what a configuration of a program is

-- both expressions are valid and name none but the members
pub record IsGood (x : ConfigurationData) : Type 0 where
  pub read_valid : expression_fault x.read ≡ None
  pub write_valid : expression_fault x.write ≡ None
  pub read_own : names_only x.read x.members ≡ true
  pub write_own : names_only x.write x.members ≡ true

good-configuration : (xs : List Configuration) (c : ℕ) → c < length (map configuration_data xs) → IsGood (configuration_at (map configuration_data xs) c)
good-configuration [] c h = absurd (omega arith)
good-configuration (x ∷ xs) zero h = record { read_valid = x.read_valid; write_valid = x.write_valid; read_own = x.read_own; write_own = x.write_own }
good-configuration (x ∷ xs) (suc c) h = good-configuration xs c (omega arith)

good-in : (gs : List Group) (g c : ℕ) → c < length (get_or (map group_data gs) g []) → IsGood (configuration_at (get_or (map group_data gs) g []) c)
good-in [] g c h = absurd (omega arith)
good-in (x ∷ xs) zero c h = good-configuration x.configurations.items c h
good-in (x ∷ xs) (suc g) c h = good-in xs g c h

-- ---- own members

member-is : (s : FinSet nat_cmp) (x : ℕ) → contains s x ≡ true → nat_lt x 64 ≡ true → any (λ y. y == x) (listed s) ≡ true
member-is s x in_s below = any-listed s x ∙ and_from (nat_lt x 64) (contains s x) below in_s

mutual
  own : (f : Formula) (s : FinSet nat_cmp) → names_only f s ≡ true → SpeaksOf f below_64 → SpeaksOf f (λ x. any (λ y. y == x) (listed s))
  own (member x) s h below = member-is s x h below
  own (at_least k of) s h below = each_own of s h below

  each_own : (of : Children) (s : FinSet nat_cmp) → each_names_only of s ≡ true → EachSpeaksOf of below_64 → EachSpeaksOf of (λ x. any (λ y. y == x) (listed s))
  each_own no_child s h below = tt
  each_own (child w f fs) s h below =
      let parts = and_parts (names_only f s) (each_names_only fs s) h in (own f s parts.0 below.0, each_own fs s parts.1 below.1)

-- ---- what stands above

same-some : (m n : ℕ) → ◌≡◌ {A = Option ℕ} (Some m) (Some n) → m ≡ n
same-some m n h = cc

-- what stands above a configuration in the model stands above it in the plan
stands-above : (plan : PlanData) (g a c : ℕ) → GoodParents (group_at plan g) c → IsAbove (model_of plan) g a c → IsAboveIn (group_at plan g) a c
stands-above plan g a c good (is_parent b d (low, is)) =
    let (p, there, before) = parent-there d (configuration_at (group_at plan g) d).parent low (good d (omega arith)) in
    is_parent b d (parent_at-is (group_at plan g) d p there before ∙ ap Some (sym (is ∙ ap or_zero there)))
stands-above plan g a c good (is_ancestor b q d (low, is) up) =
    let (p, there, before) = parent-there d (configuration_at (group_at plan g) d).parent low (good d (omega arith)) in
    let same : q ≡ p = is ∙ ap or_zero there in
    is_ancestor b q d (parent_at-is (group_at plan g) d p there before ∙ ap Some (sym same)) (stands-above plan g b q (λ k le. good k (omega (arith, same, before, le))) up)

module _ (certify : ClaimsCertify) (refutes : (rule : Rule) (state : State) → first_fault rule state ≡ None → Refutes rule state)
    (meet : (rule : Rule) (left right : Formula) (clear : FinSet nat_cmp) → Refutes rule (claim_state left right clear) → Meets left right clear)
    (plan : Plan) (checked : plan_fault (plan_data plan) ≡ None) where
  pub keeps-claim : (g c : ℕ) → g < length (map group_data plan.groups.items) → c < length (group_at (plan_data plan) g) → KeepsClaim (shown (epoch_at (group_at (plan_data plan) g) c) (configuration_at (group_at (plan_data plan) g) c))
  keeps-claim g c there below =
      let x : ConfigurationData = configuration_at (group_at (plan_data plan) g) c in
      let good : IsGood x = good-in plan.groups.items g c below in
      let parts = neither (shape_fault g (group_at (plan_data plan) g) c) _ (no-fault (plan_data plan) g c checked there below) in
      let claims = neither (meets_fault g (group_at (plan_data plan) g) c) _ parts.1 in
      let certificate = refuted g c false x.meets (meets_claim x) claims.0 in
      record {
        members_below = λ y h. ltb-true y 64 (and_parts (nat_lt y 64) (contains x.members y) (sym (any-listed x.members y) ∙ h)).0;
        read_counts = HasCounts-from x.read good.read_valid;
        read_own = own x.read x.members good.read_own (SpeaksOf-from x.read good.read_valid);
        write_own = own x.write x.members good.write_own (SpeaksOf-from x.write good.write_valid);
        meets = meet certificate.0 x.read x.write empty (refutes certificate.0 (meets_claim x) certificate.1);
      }

  -- the parts of a step without a fault
  module _ (g c : ℕ) (there : g < length (map group_data plan.groups.items)) (below : c < length (group_at (plan_data plan) g)) (low : 0 < c) where
    abbrev group : List ConfigurationData
    group = group_at (plan_data plan) g

    abbrev x : ConfigurationData
    x = configuration_at group c

    shapes : (k : ℕ) → k ≤ c → shape_fault g group k ≡ None
    shapes k le = (neither (shape_fault g group k) _ (no-fault (plan_data plan) g k checked there (omega (arith, le, below)))).0

    good : GoodParents group c
    good k le = passes (is_good_parent k (configuration_at group k).parent) (BadParent g k) (neither (parent_fault g group k) (reuse_fault g group k) (shapes k le)).0

    parent : (p : ℕ) × (x.parent ≡ Some p) × (p < c)
    parent = parent-there c x.parent low (good c (omega arith))

    parent-is : or_zero x.parent ≡ parent.0
    parent-is = ap or_zero parent.1

    -- the fresh members
    abbrev fresh : FinSet nat_cmp
    fresh = difference x.members (configuration_at group parent.0).members

    fresh-is : fresh_at group c ≡ fresh
    fresh-is = ap (λ q. by_parent q empty (λ p. difference x.members (configuration_at group p).members)) parent.1

    member-of : (y : ℕ) (s : FinSet nat_cmp) → any (λ z. z == y) (listed s) ≡ true → (nat_lt y 64 ≡ true) × (contains s y ≡ true)
    member-of y s h = and_parts (nat_lt y 64) (contains s y) (sym (any-listed s y) ∙ h)

    same-fresh : (t a b : Bool) → ((a && not b) && t) ≡ ((t && a) && not (t && b))
    same-fresh true true true = refl
    same-fresh true true false = refl
    same-fresh true false true = refl
    same-fresh true false false = refl
    same-fresh false true true = refl
    same-fresh false true false = refl
    same-fresh false false true = refl
    same-fresh false false false = refl

    fresh-shown : (y : ℕ) → contains (intersection fresh all_members) y ≡ is_fresh (model_of (plan_data plan)) g c y
    fresh-shown y =
        contains-intersection nat_cmp_total fresh all_members y
        ∙ (λ i. contains-difference nat_cmp_total x.members (configuration_at group parent.0).members y i && contains-all_members y i)
        ∙ same-fresh (nat_lt y 64) (contains x.members y) (contains (configuration_at group parent.0).members y)
        ∙ (λ i. sym (any-listed x.members y) i && not (sym (any-listed (configuration_at group parent.0).members y) i))
        ∙ ap (λ q. any (λ z. z == y) (listed x.members) && not (any (λ z. z == y) (listed (configuration_at group q).members))) (sym parent-is)

    in-fresh : (y : ℕ) → is_fresh (model_of (plan_data plan)) g c y ≡ true → (y < 64) × (contains x.members y ≡ true) × (contains (configuration_at group parent.0).members y ≡ false)
    in-fresh y h =
        let both = and_parts (contains fresh y) (contains all_members y) (sym (contains-intersection nat_cmp_total fresh all_members y) ∙ fresh-shown y ∙ h) in
        let parts = in-difference x.members (configuration_at group parent.0).members y both.0 in
        (ltb-true y 64 (sym (contains-all_members y) ∙ both.1), parts.0, parts.1)

    no-reuse-here : reuse_fault g group c ≡ None
    no-reuse-here = (neither (parent_fault g group c) (reuse_fault g group c) (shapes c (omega arith))).1

    fresh-unused : (y a : ℕ) → is_fresh (model_of (plan_data plan)) g c y ≡ true → IsAbove (model_of (plan_data plan)) g a c → has_member ((model_of (plan_data plan)).configuration g a) y ≡ false
    fresh-unused y a fresh up =
        let (below, has, lacks) = in-fresh y fresh in
        false_from_ne_true _ (λ there. (reuse_is_found.none g c group).0 no-reuse-here y (record {
          member = below;
          has = has;
          lacked = λ p is. (let same : parent.0 ≡ p = same-some parent.0 p (sym parent.1 ∙ is) in ap (λ k. contains (configuration_at group k).members y) (sym same) ∙ lacks);
          above = (a, stands-above (plan_data plan) g a c good up, (member-of y (configuration_at group a).members there).1);
        }))

    step-meets : Meets x.read (dual_of (configuration_at group parent.0).read) fresh
    step-meets =
        let parts = neither (shape_fault g group c) _ (no-fault (plan_data plan) g c checked there below) in
        let step : step_fault g group c ≡ None = (neither (meets_fault g group c) (step_fault g group c) parts.1).1 in
        let claim : claim_fault g c true x.step (step_claim group c parent.0) ≡ None = subst (λ q. by_parent q None (λ p. claim_fault g c true x.step (step_claim group c p)) ≡ None) parent.1 step in
        let certificate = refuted g c true x.step (step_claim group c parent.0) claim in
        subst (Meets x.read (dual_of (configuration_at group parent.0).read)) fresh-is
        (meet certificate.0 x.read (dual_of (configuration_at group parent.0).read) (fresh_at group c) (refutes certificate.0 (step_claim group c parent.0) certificate.1))

    clear-of-all : (s : FinSet nat_cmp) (read write : Formula) → Meets read write s → Meets read write (intersection s all_members)
    clear-of-all s read write meets r w members others apart clear reads writes =
        meets r w members others apart (λ y in_r in_s. clear y in_r (contains-intersection nat_cmp_total s all_members y ∙ and_from (contains s y) (contains all_members y) in_s (contains-all_members y ∙ lt-ltb y 64 (members y in_r)))) reads writes

    pub keeps-step : KeepsStepClaim (model_of (plan_data plan)) g c
    keeps-step = record {
      child = record {
        parent_below = omega (arith, parent-is, parent.2);
        epoch_next = epoch-next group c parent.0 (parent_at-is group c parent.0 parent.1 parent.2) parent.2 ∙ ap (λ q. suc (epoch_at group q)) (sym parent-is);
        fresh_unused = fresh-unused;
      };
      fresh = intersection fresh all_members;
      fresh_is = fresh-shown;
      meets = subst (λ q. Meets x.read (dual_of (configuration_at group q).read) (intersection fresh all_members)) (sym parent-is) (clear-of-all fresh x.read (dual_of (configuration_at group parent.0).read) step-meets);
    }

  -- the claims of a plan without a fault hold
  pub keeps-claims : KeepsClaims (model_of (plan_data plan))
  keeps-claims = record {
    lal_positive = plan.lal_some;
    born_there = plan.born_some;
    born_within = omega (arith, plan.born_within, length-map plan.groups.items group_data);
    root_there = λ g there. root-of plan g there;
    root_epoch = λ g there. refl;
    quorums = keeps-claim;
    step = λ g c there below low. keeps-step g c there below low;
  }

  pub certified : IsCertified (model_of (plan_data plan))
  certified = certify (model_of (plan_data plan)) keeps-claims

  -- the members of each configuration satisfy its write expression
  pub write-sets : HasWriteSets (model_of (plan_data plan))
  write-sets g c there below =
      let x : ConfigurationData = configuration_at (group_at (plan_data plan) g) c in
      let good : IsGood x = good-in plan.groups.items g c below in
      sat_all x.write (λ y. any (λ z. z == y) (listed x.members)) (HasCounts-from x.write good.write_valid)
      (own x.write x.members good.write_own (SpeaksOf-from x.write good.write_valid))
