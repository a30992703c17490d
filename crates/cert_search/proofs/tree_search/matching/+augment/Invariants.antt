use Rattle.cert_search.proofs.tree_search.matching.+augment.Given as goal

abbrev pub decreases-augment : goal.decreases-augment
decreases-augment l = l.depth
