use Rattle.std.proofs.Common.{◌≡◌, take}
use Rattle.plan.specs.NamedClaims.{all_placed}
use Rattle.plan.specs.LentClaims.{all_lent}
use Rattle.plan.proofs.listing.named.Given as goal

-- the claims so far
abbrev pub invariant-loop-claim : goal.invariant-loop-claim
invariant-loop-claim l = all_placed l.list.items ≡ all_lent (take l.claim-index l.lent)
