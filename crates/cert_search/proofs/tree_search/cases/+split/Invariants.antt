use Rattle.cert_search.proofs.tree_search.cases.+split.Given as goal

-- the levels that a tree may still have
abbrev pub decreases-split : goal.decreases-split
decreases-split g l = l.levels
