-- The first fault of a plan.
use Rattle.std.specs.Prelude.{◌≡◌, ◌≢◌, ◌==◌, ℕ, zero, suc, nat_lt, if◌then◌else◌, Bool, true, false, List, length, Option, Some, None, Result, Ok, Err, [], slice_get, slice_index_or}
use Rattle.std.specs.Ordering.{nat_cmp}
use Rattle.std.specs.FinSet.{FinSet, empty, difference}
use Rattle.volume_model.specs.Common.{dual_of, listed}
use Rattle.refutation.specs.Common.{Rule}
use Rattle.quorum_checker.specs.declared.fault.FaultAt.{FaultAt}
use Rattle.quorum_checker.specs.Refutes.{State, claim_state}
use Rattle.quorum_checker.specs.FirstFault.{first_fault}
use Rattle.volume_model.specs.declared.fault.Fault.TheVariants.{NoMemory}
use Rattle.plan.specs.declared.fault.PlanFault.{PlanFault}
use Rattle.plan.specs.declared.fault.PlanFault.TheVariants.{Text, BadParent, MemberReused, NoCertificate, Certificate}
use Rattle.plan.specs.PlanData.{ConfigurationData, PlanData, configuration_at, parent_at, by_parent}

-- the first fault if there is one, else the next
abbrev pub or_then : Option PlanFault → Option PlanFault → Option PlanFault
or_then None next = next
or_then (Some fault) next = Some fault

-- the first fault for the numbers below a bound, in growing order
abbrev pub first_below : ℕ → (ℕ → Option PlanFault) → Option PlanFault
first_below zero fault_of = None
first_below (suc n) fault_of = or_then (first_below n fault_of) (fault_of n)

-- ---- parents

-- configuration 0 has no parent, and each other one has a parent with a smaller number
abbrev pub is_good_parent : ℕ → Option ℕ → Bool
is_good_parent c None = c == 0
is_good_parent c (Some p) = nat_lt p c

abbrev pub parent_fault : ℕ → List ConfigurationData → ℕ → Option PlanFault
parent_fault g group c = if is_good_parent c (configuration_at group c).parent then None else Some (BadParent g c)

-- ---- members that are reused

-- the fresh members of a configuration: those that its parent doesn't have
abbrev pub fresh_at : List ConfigurationData → ℕ → FinSet nat_cmp
fresh_at group c = by_parent (configuration_at group c).parent empty (λ p. difference (configuration_at group c).members
    (configuration_at group p).members)

-- the members of a set that no ancestor has, of the ancestors at most this many steps above
abbrev pub unused_within : ℕ → List ConfigurationData → ℕ → FinSet nat_cmp → FinSet nat_cmp
unused_within zero group c s = s
unused_within (suc steps) group c s = by_parent (parent_at group c) s
    (λ p. unused_within steps group p (difference s (configuration_at group p).members))

-- the fresh members that an ancestor has
abbrev pub reused_at : List ConfigurationData → ℕ → FinSet nat_cmp
reused_at group c = difference (fresh_at group c) (unused_within c group c (fresh_at group c))

-- the least member of a set is reused
abbrev pub reused_member : ℕ → ℕ → Option ℕ → Option PlanFault
reused_member g c None = None
reused_member g c (Some x) = Some (MemberReused g c x)

abbrev pub reuse_fault : ℕ → List ConfigurationData → ℕ → Option PlanFault
reuse_fault g group c = reused_member g c (slice_get (listed (reused_at group c)) 0)

-- ---- claims

-- the fault of a certificate
abbrev pub certificate_fault : ℕ → ℕ → Bool → Option FaultAt → Option PlanFault
certificate_fault g c step None = None
certificate_fault g c step (Some at) = Some (Certificate g c step at)

-- the fault of a claim and its certificate, if it has one
abbrev pub claim_fault : ℕ → ℕ → Bool → Option Rule → State → Option PlanFault
claim_fault g c step None claim = Some (NoCertificate g c step)
claim_fault g c step (Some rule) claim = certificate_fault g c step (first_fault rule claim)

-- the meets claim: each read set shares a member with each write set
abbrev pub meets_claim : ConfigurationData → State
meets_claim x = claim_state x.read x.write empty

-- the step claim: each read set without fresh members shares a member with each set that satisfies the dual of the
-- parent's read expression
abbrev pub step_claim : List ConfigurationData → ℕ → ℕ → State
step_claim group c p = claim_state (configuration_at group c).read (dual_of (configuration_at group p).read)
    (fresh_at group c)

abbrev pub meets_fault : ℕ → List ConfigurationData → ℕ → Option PlanFault
meets_fault g group c = claim_fault g c false (configuration_at group c).meets (meets_claim (configuration_at group c))

abbrev pub step_fault : ℕ → List ConfigurationData → ℕ → Option PlanFault
step_fault g group c = by_parent (configuration_at group c).parent None
    (λ p. claim_fault g c true (configuration_at group c).step (step_claim group c p))

-- ---- a whole plan

-- the first fault of a configuration's parent and fresh members; one with a fault has no claims
abbrev pub shape_fault : ℕ → List ConfigurationData → ℕ → Option PlanFault
shape_fault g group c = or_then (parent_fault g group c) (reuse_fault g group c)

abbrev pub configuration_fault : ℕ → List ConfigurationData → ℕ → Option PlanFault
configuration_fault g group c = or_then (shape_fault g group c) (or_then (meets_fault g group c) (step_fault g group c))

abbrev pub group_fault : ℕ → List ConfigurationData → Option PlanFault
group_fault g group = first_below (length group) (configuration_fault g group)

-- the first fault of all groups
abbrev pub groups_fault : List (List ConfigurationData) → Option PlanFault
groups_fault groups = first_below (length groups) (λ g. group_fault g (slice_index_or groups g []))

-- The first fault of a plan. For each configuration in order: its parent, its fresh members, its meets claim, its step
-- claim.
unfoldable pub plan_fault : PlanData → Option PlanFault
plan_fault plan = groups_fault plan.groups

-- A check returns the first fault, if there is one, unless memory runs out.
abbrev pub Finds : Result (Unit {0}) PlanFault → Option PlanFault → Type 0
Finds (Ok u) found = found ≡ None
Finds (Err fault) found = fault ≢ Text NoMemory → found ≡ Some fault
