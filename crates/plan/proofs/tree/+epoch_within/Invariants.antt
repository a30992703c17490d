use Rattle.plan.proofs.tree.+epoch_within.Given as goal

abbrev pub decreases-epoch_within : goal.decreases-epoch_within
decreases-epoch_within l = l.steps
