-- The claims of a plan, as a checker of certificates states them.
use Rattle.std.specs.Prelude.{◌≡◌, ℕ, ◌<◌, true}
use Rattle.std.specs.Ordering.{nat_cmp}
use Rattle.std.specs.FinSet.{FinSet, empty, contains}
use Rattle.volume_model.specs.Formula.{dual_of, HasCounts, SpeaksOf}
use Rattle.volume_model.specs.Meets.{Meets}
use Rattle.volume_model.specs.Plan.{Plan, Configuration, has_member, parent_of, is_fresh, IsChild, IsPlanOf, IsCertified}

-- Each read set has a member in common with each write set, and both expressions are valid over the configuration's own
-- members.
pub record KeepsClaim (configuration : Configuration) : Type 0 where
  pub members_below : (x : ℕ) → has_member configuration x ≡ true → x < 64
  pub read_counts : HasCounts configuration.read
  pub read_own : SpeaksOf configuration.read (has_member configuration)
  pub write_own : SpeaksOf configuration.write (has_member configuration)
  pub meets : Meets configuration.read configuration.write (empty {R = nat_cmp})

-- The configuration is a child. Each read set of it without fresh members has a member in common with each set that
-- satisfies the dual of the parent's read expression.
pub record KeepsStepClaim (plan : Plan) (group c : ℕ) : Type 0 where
  pub child : IsChild plan group c
  pub fresh : FinSet nat_cmp
  pub fresh_is : (x : ℕ) → contains fresh x ≡ is_fresh plan group c x
  pub meets : Meets (plan.configuration group c).read (dual_of (plan.configuration group (parent_of plan group c)).read)
      fresh

-- All claims of the plan hold.
abbrev pub KeepsClaims : Plan → Type 0
KeepsClaims plan = IsPlanOf KeepsClaim KeepsStepClaim plan

-- A plan whose claims hold is certified.
abbrev pub ClaimsCertify : Type 0
ClaimsCertify = (plan : Plan) → KeepsClaims plan → IsCertified plan
