use Rattle.hydration.proofs.Marks.{once-alone, marked-first}
use Rattle.hydration.proofs.pieces.Pieces.first.Goals as goal
use Rattle.std.proofs.Common.{rules}

pub invariant_of-result : goal.invariant_of-result
invariant_of-result c = search (rules, c.in_ok-vec.ensures.items, c.in_ok-marks.ensures.items_if_clones_equal, c.from.ensures, c.requires, c.from-2.ensures, once-alone, marked-first)
