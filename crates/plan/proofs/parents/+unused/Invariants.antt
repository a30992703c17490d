use Rattle.plan.proofs.parents.+unused.Given as goal

abbrev pub decreases-unused : goal.decreases-unused
decreases-unused l = l.steps
