-- The configurations by which a member is replaced.
use Rattle.std.specs.Prelude.{ℕ, ◌<◌, if◌then◌else◌, List, [], ◌∷◌, length, Some, None}
use Rattle.std.specs.Ordering.{nat_cmp}
use Rattle.std.specs.FinSet.{FinSet, contains, insert, remove}
use Rattle.plan.specs.Common.{plan_data, ConfigurationData, configuration_at, group_at}
use Rattle.plan.specs.declared.configurations.Plan.{Plan}
use Rattle.plan_edit.specs.declared.replacement.Replacement.{Replacement}
use Rattle.plan_edit.specs.Renamed.{renamed, two_of}

-- both are numbers of members
abbrev pub HasNumbers : Replacement → Type 0
HasNumbers r = (r.old < 64) × (r.new < 64)

-- the full members with the new one, which is full if the old one is, unless it keeps the log alone
abbrev pub full_with : Replacement → FinSet nat_cmp → FinSet nat_cmp
full_with r full = if r.is_tail then full else (if contains full r.old then insert full r.new else full)

-- The joint configuration has both members. A write satisfies the old and the new write expression, a read the old or
-- the new read expression.
abbrev pub joint : Replacement → ℕ → ConfigurationData → ConfigurationData
joint r parent x = record {
  parent = Some parent;
  members = insert x.members r.new;
  full = full_with r x.full;
  read = two_of 1 x.read (renamed r.old r.new x.read);
  write = two_of 2 x.write (renamed r.old r.new x.write);
  meets = None;
  step = None;
}

-- the new membership
abbrev pub swapped : Replacement → ℕ → ConfigurationData → ConfigurationData
swapped r parent x = record {
  parent = Some parent;
  members = remove (insert x.members r.new) r.old;
  full = remove (full_with r x.full) r.old;
  read = renamed r.old r.new x.read;
  write = renamed r.old r.new x.write;
  meets = None;
  step = None;
}

-- the way back to the old membership
abbrev pub back : ℕ → ConfigurationData → ConfigurationData
back parent x = record {
  parent = Some parent;
  members = x.members;
  full = x.full;
  read = x.read;
  write = x.write;
  meets = None;
  step = None;
}

-- the joint configuration with this number, and the steps from there: to the new membership, and back
abbrev pub stepped : Replacement → ℕ → ConfigurationData → List ConfigurationData
stepped r number x = joint r r.configuration x ∷ swapped r number x ∷ back number x ∷ []

-- the group of a plan in which a member is replaced
abbrev pub edited_group : Replacement → Plan → List ConfigurationData
edited_group r plan = group_at (plan_data plan) r.group

-- what a replacement adds behind the configurations of a group
abbrev pub added : Replacement → List ConfigurationData → List ConfigurationData
added r group =
    if r.is_direct then swapped r r.configuration (configuration_at group r.configuration) ∷ []
    else stepped r (length group) (configuration_at group r.configuration)
