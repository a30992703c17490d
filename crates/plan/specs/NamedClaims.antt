-- Views of the code's claims.
use Rattle.std.specs.Prelude.{List, map}
use Rattle.quorum_checker.specs.Claim.{first_state}
use Rattle.plan.specs.declared.placed.NamedClaim.{NamedClaim}
use Rattle.plan.specs.PlanClaims.{PlacedClaim}

abbrev pub placed : NamedClaim → PlacedClaim
placed c = record { group = c.group; configuration = c.configuration; step = c.step; claim = first_state c.claim }

abbrev pub all_placed : List NamedClaim → List PlacedClaim
all_placed = map placed
