use Rattle.std.proofs.Common.{ℕ, List, All, vec_len}
use Rattle.plan.specs.Common.{PlacedClaim}
use Rattle.cert_search.specs.Places.{ArePlaces, IsWork}
use Rattle.cert_search.proofs.filling.fill_all.Given as goal

-- of whichever claims: the rest is work, and the places are theirs
abbrev pub invariant-loop-founds : goal.invariant-loop-founds
invariant-loop-founds l = (budget : ℕ) (claims : List PlacedClaim) → All (IsWork budget claims) l.fn.found.items → ArePlaces budget claims l.initial.places.items → All (IsWork budget claims) l.found.items × ArePlaces budget claims l.places.items

abbrev pub decreases-loop-founds : goal.decreases-loop-founds
decreases-loop-founds l = vec_len l.found
