-- The data of a plan, independent of how a program stores it, and the plan of the model for it.
use Rattle.std.specs.Prelude.{ℕ, zero, suc, ◌&&◌, nat_lt, if◌then◌else◌, Bool, true, List, [], length, Option, Some, None, slice_index_or}
use Rattle.std.specs.Ordering.{nat_cmp}
use Rattle.std.specs.FinSet.{FinSet, empty, contains}
use Rattle.volume_model.specs.Common.{Formula, Children, at_least, no_child, child, listed}
use Rattle.volume_model.specs.Formula.{member}
use Rattle.volume_model.specs.Plan as model
use Rattle.refutation.specs.Common.{Rule}
use Rattle.plan.specs.declared.formats.Format.{Format}

-- A configuration: its parent's number, its members and those that are full, its expressions, and the certificates of
-- its claims.
pub record ConfigurationData : Type 0 where
  pub parent : Option ℕ
  pub members : FinSet nat_cmp
  pub full : FinSet nat_cmp
  pub read : Formula
  pub write : Formula
  pub meets : Option Rule
  pub step : Option Rule

-- The format, how far LSNs may run ahead of the durable point, the number of groups at birth, and the configurations of
-- each group.
pub record PlanData : Type 0 where
  pub format : Format
  pub lal : ℕ
  pub born : ℕ
  pub groups : List (List ConfigurationData)

-- the value for a configuration that doesn't exist
abbrev pub no_configuration : ConfigurationData
no_configuration = record {
  parent = None;
  members = empty;
  full = empty;
  read = member 0;
  write = member 0;
  meets =
      None;
  step = None;
}

-- the configurations of a group
abbrev pub group_at : PlanData → ℕ → List ConfigurationData
group_at plan g = slice_index_or plan.groups g []

-- a configuration of a group by its number
abbrev pub configuration_at : List ConfigurationData → ℕ → ConfigurationData
configuration_at group c = slice_index_or group c no_configuration

-- the number of the parent, if it is smaller than the configuration's
abbrev pub earlier : ℕ → Option ℕ → Option ℕ
earlier c None = None
earlier c (Some p) = if nat_lt p c then Some p else None

-- the same for a configuration of a group
abbrev pub parent_at : List ConfigurationData → ℕ → Option ℕ
parent_at group c = earlier c (configuration_at group c).parent

-- one value if there is no parent, another if there is one
abbrev pub by_parent : {A : Type 0} → Option ℕ → A → (ℕ → A) → A
by_parent None root under = root
by_parent (Some p) root under = under p

-- the membership epoch, found by climbing at most this many parents: 1 for a root, one more than its parent's for a
-- child
abbrev pub epoch_within : ℕ → List ConfigurationData → ℕ → ℕ
epoch_within zero group c = 1
epoch_within (suc steps) group c = by_parent (parent_at group c) 1 (λ p. suc (epoch_within steps group p))

-- the membership epoch of a configuration
abbrev pub epoch_at : List ConfigurationData → ℕ → ℕ
epoch_at group c = epoch_within c group c

-- a number, 0 if there is none
abbrev pub or_zero : Option ℕ → ℕ
or_zero None = 0
or_zero (Some n) = n

-- a configuration as one of the model
abbrev pub shown : ℕ → ConfigurationData → model.Configuration
shown epoch x = record {
  parent = or_zero x.parent;
  epoch = epoch;
  members = listed x.members;
  full = listed x.full;
  read = x.read;
  write = x.write;
}

-- the plan as one of the model
abbrev pub model_of : PlanData → model.Plan
model_of plan = record {
  lal = plan.lal;
  born = plan.born;
  groups = length plan.groups;
  configurations = λ g. length (group_at plan g);
  configuration = λ g c. shown (epoch_at (group_at plan g) c) (configuration_at (group_at plan g) c);
}

-- the formula names only members of the set
abbrev mutual
  pub names_only : Formula → FinSet nat_cmp → Bool
  names_only (member x) s = contains s x
  names_only (at_least k of) s = each_names_only of s

  -- each child names only members of the set
  pub each_names_only : Children → FinSet nat_cmp → Bool
  each_names_only no_child s = true
  each_names_only (child w f fs) s = names_only f s && each_names_only fs s
