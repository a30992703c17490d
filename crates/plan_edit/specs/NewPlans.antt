-- New plans.
use Rattle.std.specs.Prelude.{◌≡◌, ◌<◌, ◌≤◌, ℕ, Bool, true, false, List, [], ◌∷◌, length, get_or, None, Ok, slice_index_or}
use Rattle.std.specs.Ordering.{nat_cmp}
use Rattle.std.specs.FinSet.{FinSet, empty, contains, difference, remove}
use Rattle.volume_model.specs.Common.{Formula, Children, Members, at_least, no_child, child, sat, listed}
use Rattle.volume_model.specs.Formula.{member}
use Rattle.quorum_checker.specs.Tolerance.{all_of, taken, left_by}
use Rattle.plan.specs.Common.{ConfigurationData, PlanData, group_at, configuration_at, plan_of, plan_fault}
use Rattle.plan_edit.specs.Renamed.{two_of}
use Rattle.plan_edit.specs.declared.plan_words.PlanWords.{PlanWords}
use Rattle.plan_edit.specs.declared.plan_words.Quorums.{Quorums}
use Rattle.plan_edit.specs.declared.plan_words.Quorums.TheVariants.{Counted, FullAndTail, Surviving, Zones}

-- members as children; the weight of a member is the entry at its number, or 1 if there is none
abbrev pub weighing : List ℕ → List ℕ → Children
weighing weights [] = no_child
weighing weights (x ∷ xs) = child (get_or weights x 1) (member x) (weighing weights xs)

-- the members weigh at least k together
abbrev pub counted : ℕ → List ℕ → FinSet nat_cmp → Formula
counted k weights members = at_least k (weighing weights (listed members))

-- Aurora's full and tail form: a read set has that many of all members, and a full one
abbrev pub tail_read : ℕ → FinSet nat_cmp → FinSet nat_cmp → Formula
tail_read k members full = two_of 2 (counted k [] members) (counted 1 [] full)

-- a write set has that many of all members, or all full ones
abbrev pub tail_write : ℕ → FinSet nat_cmp → FinSet nat_cmp → Formula
tail_write k members full = two_of 1 (counted k [] members) (counted (length (listed full)) [] full)

-- the formula survives any loss of at most n members
abbrev pub Outlasts : ℕ → Formula → FinSet nat_cmp → Type 0
Outlasts n f members = (loss : Members) → taken loss (all_of members) ≤ n → sat f (left_by loss members) ≡ true

-- the formula survives the loss of each zone
abbrev pub OutlastsZones : List (FinSet nat_cmp) → Formula → FinSet nat_cmp → Type 0
OutlastsZones zones f members = (z : ℕ) → z < length zones
    → sat f (contains (difference members (slice_index_or zones z empty))) ≡ true

-- the formula survives the loss of a member, whichever it is
abbrev pub OutlastsOne : Formula → FinSet nat_cmp → Type 0
OutlastsOne f members = (x : ℕ) → x < 64 → sat f (contains (remove members x)) ≡ true

-- the formula survives the loss of each zone and of one more member
abbrev pub OutlastsZonesAndOne : List (FinSet nat_cmp) → Formula → FinSet nat_cmp → Type 0
OutlastsZonesAndOne zones f members = (z : ℕ) → z < length zones
    → OutlastsOne f (difference members (slice_index_or zones z empty))

-- read sets survive the loss of each zone, and of one more member if that is asked
abbrev pub ReadsOutlast : Bool → List (FinSet nat_cmp) → ConfigurationData → Type 0
ReadsOutlast false zones c = OutlastsZones zones c.read c.members
ReadsOutlast true zones c = OutlastsZonesAndOne zones c.read c.members

-- read sets and write sets are the ones that are asked for, or survive what is asked
abbrev pub IsAsked : Quorums → ConfigurationData → Type 0
IsAsked (Counted read write weights) c = (c.read ≡ counted read weights.now c.members)
    × (c.write ≡ counted write weights.now c.members)
IsAsked (FullAndTail read write) c = (c.read ≡ tail_read read c.members c.full)
    × (c.write ≡ tail_write write c.members c.full)
IsAsked (Surviving n) c = Outlasts n c.read c.members × Outlasts n c.write c.members
IsAsked (Zones zones is_one_more) c = ReadsOutlast is_one_more zones.now c
    × OutlastsZones zones.now c.write c.members

-- a configuration without a parent, with the members and the quorums that are asked for
pub record IsRoot (words : PlanWords) (c : ConfigurationData) : Type 0 where
  pub parent : c.parent ≡ None
  pub members : c.members ≡ words.members
  pub full : c.full ≡ difference words.members words.tail
  pub asked : IsAsked words.quorums c

-- a group with one such configuration
pub record HasRoot (words : PlanWords) (group : List ConfigurationData) : Type 0 where
  pub one : length group ≡ 1
  pub root : IsRoot words (configuration_at group 0)

-- a plan of such groups
pub record IsWanted (words : PlanWords) (plan : PlanData) : Type 0 where
  pub lal : plan.lal ≡ words.lal
  pub born : plan.born ≡ words.born
  pub count : length plan.groups ≡ words.groups
  pub groups : (g : ℕ) → g < length plan.groups → HasRoot words (group_at plan g)

-- the line is the text of such a plan, without a fault
pub record IsNew (words : PlanWords) (line : List ℕ) : Type 0 where
  pub new : PlanData
  pub is_new : plan_of line ≡ Ok new
  pub faultless : plan_fault new ≡ None
  pub wanted : IsWanted words new
