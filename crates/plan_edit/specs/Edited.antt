-- A plan with new configurations behind those that it had.
use Rattle.std.specs.Prelude.{◌≡◌, ◌==◌, ◌<◌, ◌++◌, ℕ, if◌then◌else◌, List, [], length, map, None, Ok}
use Rattle.plan.specs.Common.{ConfigurationData, PlanData, group_at, plan_of, plan_fault}
use Rattle.plan_edit.specs.declared.replacement.Replacement.{Replacement}
use Rattle.plan_edit.specs.Drafts.{uncertified}
use Rattle.plan_edit.specs.Replaced.{added}

-- the configurations of a group, with these behind them if it is the group that is edited
abbrev pub extended : ℕ → List ConfigurationData → PlanData → ℕ → List ConfigurationData
extended group more old g = map uncertified (group_at old g) ++ (if g == group then more else [])

-- The new plan begins with the old one: the same format, LAL and groups, and in each group the same configurations.
-- Only one group has more, namely these. Certificates may differ.
pub record Extends (group : ℕ) (more : List ConfigurationData) (old new : PlanData) : Type 0 where
  pub format : new.format ≡ old.format
  pub lal : new.lal ≡ old.lal
  pub born : new.born ≡ old.born
  pub count : length new.groups ≡ length old.groups
  pub groups : (g : ℕ) → g < length old.groups → map uncertified (group_at new g) ≡ extended group more old g

-- The line is the text of a plan without a fault that begins with the old one, and one group has these configurations
-- more.
pub record IsExtension (group : ℕ) (more : List ConfigurationData) (old : PlanData) (line : List ℕ) : Type 0 where
  pub new : PlanData
  pub is_new : plan_of line ≡ Ok new
  pub faultless : plan_fault new ≡ None
  pub extends : Extends group more old new

-- The same, for the text's plan and the configurations of a replacement.
pub record IsReplaced (replacement : Replacement) (text line : List ℕ) : Type 0 where
  pub old : PlanData
  pub is_old : plan_of text ≡ Ok old
  pub extension : IsExtension replacement.group (added replacement (group_at old replacement.group)) old line
