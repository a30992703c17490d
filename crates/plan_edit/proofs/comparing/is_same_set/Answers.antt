use Rattle.std.proofs.Common.{sym, ◌∙◌}
use Rattle.plan_edit.proofs.Sets.{same_of_subsets}
use Rattle.plan_edit.proofs.comparing.is_same_set.Goals as goal

pub returns-then-is_subset : goal.returns-then-is_subset
returns-then-is_subset c = λ other.
    same_of_subsets c.args.left c.args.right (sym c.is_subset.ensures ∙ c.if-is_subset.true) (sym c.is_subset-then-is_subset.ensures ∙ other)
