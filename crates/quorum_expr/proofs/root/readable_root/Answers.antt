use Rattle.std.proofs.Common.{ap, ◌∙◌}
use Rattle.quorum_expr.specs.Placed.{passes}
use Rattle.quorum_expr.proofs.Passing.{passes_here, read-passes}
use Rattle.quorum_expr.proofs.root.readable_root.Goals as goal

pub returns : goal.returns
returns c = λ text is whole. read-passes text c.root.result (c.root.ensures.same ∙ is) whole (ap (passes 127) c.root.ensures.same ∙ c.requires)

pub invariant_of-result : goal.invariant_of-result
invariant_of-result c = record { readable = passes_here c.root.result c.root.ensures.value (ap (passes 127) c.root.ensures.same ∙ c.requires) }
