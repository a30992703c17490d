use Rattle.lineage.specs.Newest.{last_epochs}
use Rattle.lineage.proofs.NewestSoFar.{IsNewest}
use Rattle.lineage.proofs.greatest.newest.Given as goal

-- it is the first of the greatest so far
abbrev pub invariant-loop-place : goal.invariant-loop-place
invariant-loop-place l = IsNewest (last_epochs l.lineages) l.newest l.place
