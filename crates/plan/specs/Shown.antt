-- Claims, each with a rule that refutes it.
use Rattle.std.specs.Prelude.{List, [], ◌∷◌, Option}
use Rattle.refutation.specs.Common.{Rule}
use Rattle.plan.specs.PlanClaims.{PlacedClaim}
use Rattle.plan.specs.Certified.{IsShown}

-- each claim has, at its place, a rule that refutes it
abbrev pub AreShown : List PlacedClaim → List (Option Rule) → Type 0
AreShown [] rules = Unit {0}
AreShown (c ∷ cs) [] = ⊥
AreShown (c ∷ cs) (rule ∷ rules) = IsShown rule c.claim × AreShown cs rules
