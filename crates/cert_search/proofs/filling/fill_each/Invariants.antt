use Rattle.std.proofs.Common.{ℕ, List, All, vec_len}
use Rattle.plan.specs.Common.{PlacedClaim}
use Rattle.cert_search.specs.Places.{ArePlaces, IsFound, IsWork}
use Rattle.cert_search.proofs.filling.fill_each.Given as goal

-- of whichever claims: the rest is found of them, and the places are theirs
abbrev pub invariant-loop-found : goal.invariant-loop-found
invariant-loop-found l = (budget : ℕ) (claims : List PlacedClaim) → IsWork budget claims l.fn.founds → ArePlaces budget claims l.initial.places.items → All (IsFound budget claims) l.founds.items × ArePlaces budget claims l.places.items

abbrev pub decreases-loop-found : goal.decreases-loop-found
decreases-loop-found l = vec_len l.founds
