use Rattle.std.specs.Prelude.{◌≡◌, ℕ, suc, ◌<◌, ◌≤◌, Bool, true, false, ◌==◌, ◌&&◌, not, nat_lt, List}
use Rattle.volume_model.specs.Lists.{any, some_below}
use Rattle.volume_model.specs.Formula.{Formula, Members, sat, HasCounts}

-- a configuration of a group; the parent of the root has no meaning
pub record Configuration : Type 0 where
  pub parent : ℕ
  pub epoch : ℕ
  pub members : List ℕ
  pub full : List ℕ
  pub read : Formula
  pub write : Formula

-- a plan: how far LSNs may run ahead of the durable point (LAL), the number of groups at birth, the number of all
-- groups (the others join one by one, in order), and the configurations of each group, of which number 0 is the root
pub record Plan : Type 0 where
  pub lal : ℕ
  pub born : ℕ
  pub groups : ℕ
  pub configurations : ℕ → ℕ
  pub configuration : ℕ → ℕ → Configuration

-- the configuration has the member
abbrev pub has_member : Configuration → ℕ → Bool
has_member configuration x = any (λ y. y == x) configuration.members

-- the member keeps whole pages
abbrev pub is_full : Configuration → ℕ → Bool
is_full configuration x = any (λ y. y == x) configuration.full

-- the number of the parent of a configuration
abbrev pub parent_of : Plan → ℕ → ℕ → ℕ
parent_of plan group c = (plan.configuration group c).parent

-- the membership epoch of a configuration
abbrev pub epoch_of : Plan → ℕ → ℕ → ℕ
epoch_of plan group c = (plan.configuration group c).epoch

-- a is an ancestor of c, by the given relation of parents
pub data StandsAbove (IsParent : ℕ → ℕ → Type 0) : ℕ → ℕ → Type 0 where
  by_parent : (a c : ℕ) → IsParent a c → StandsAbove IsParent a c
  by_ancestor : (a p c : ℕ) → IsParent p c → StandsAbove IsParent a p → StandsAbove IsParent a c

-- p is the parent of configuration c; number 0, the root, has none
abbrev pub IsParent : Plan → ℕ → ℕ → ℕ → Type 0
IsParent plan group p c = (0 < c) × (p ≡ parent_of plan group c)

-- configuration a is an ancestor of c
abbrev pub IsAbove : Plan → ℕ → ℕ → ℕ → Type 0
IsAbove plan group a c = StandsAbove (IsParent plan group) a c

-- the group has a configuration with this number, and its epoch is this one
abbrev pub is_configuration : Plan → ℕ → ℕ → ℕ → Bool
is_configuration plan group c epoch = nat_lt c (plan.configurations group) && epoch_of plan group c == epoch

-- a member that the parent doesn't have
abbrev pub is_fresh : Plan → ℕ → ℕ → ℕ → Bool
is_fresh plan group c x = has_member (plan.configuration group c) x && not
    (has_member (plan.configuration group (parent_of plan group c)) x)

-- a configuration of the group has the member
abbrev pub is_named : Plan → ℕ → ℕ → Bool
is_named plan group x = nat_lt group plan.groups && some_below (plan.configurations group)
    (λ c. has_member (plan.configuration group c) x)

-- a child: its parent has a smaller number and the epoch before its own, and no ancestor has a fresh member
pub record IsChild (plan : Plan) (group c : ℕ) : Type 0 where
  pub parent_below : parent_of plan group c < c
  pub epoch_next : epoch_of plan group c ≡ suc (epoch_of plan group (parent_of plan group c))
  pub fresh_unused : (x a : ℕ) → is_fresh plan group c x ≡ true → IsAbove plan group a c
      → has_member (plan.configuration group a) x ≡ false

-- a child whose read sets without fresh members are read sets of its parent
pub record IsStep (plan : Plan) (group c : ℕ) : Type 0 where
  pub child : IsChild plan group c
  pub reads_on : (readers : Members) → sat (plan.configuration group c).read readers ≡ true
      → ((x : ℕ) → readers x ≡ true → is_fresh plan group c x ≡ false)
      → sat (plan.configuration group (parent_of plan group c)).read readers ≡ true

-- each set that satisfies the first formula has a member in common with each set that satisfies the second
abbrev pub HaveCommonMember : Formula → Formula → Type 0
HaveCommonMember read write = (readers writers : Members) → sat read readers ≡ true → sat write writers ≡ true → (x : ℕ)
    × (readers x ≡ true) × (writers x ≡ true)

-- each read set has a member in common with each write set
pub record HasQuorums (configuration : Configuration) : Type 0 where
  pub valid_read : HasCounts configuration.read
  pub meets : HaveCommonMember configuration.read configuration.write

-- The LAL is positive; there is a group at birth, and no more than in all; each group has a root, of epoch 1; each
-- configuration satisfies Quorums, and each but the root Step.
pub record IsPlanOf (Quorums : Configuration → Type 0) (Step : Plan → ℕ → ℕ → Type 0) (plan : Plan) : Type 0 where
  pub lal_positive : 1 ≤ plan.lal
  pub born_there : 0 < plan.born
  pub born_within : plan.born ≤ plan.groups
  pub root_there : (group : ℕ) → group < plan.groups → 0 < plan.configurations group
  pub root_epoch : (group : ℕ) → group < plan.groups → epoch_of plan group 0 ≡ 1
  pub quorums : (group c : ℕ) → group < plan.groups → c < plan.configurations group
      → Quorums (plan.configuration group c)
  pub step : (group c : ℕ) → group < plan.groups → c < plan.configurations group → 0 < c → Step plan group c

-- In each configuration each read set has a member in common with each write set, and each configuration but the root
-- is a step from its parent.
abbrev pub IsCertified : Plan → Type 0
IsCertified plan = IsPlanOf HasQuorums IsStep plan
