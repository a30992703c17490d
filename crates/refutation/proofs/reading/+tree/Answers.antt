use Rattle.std.proofs.Common.{◌-◌, ◌∙◌, sym, subst, arith}
use Rattle.volume_model.specs.Common.{Gives}
use Rattle.refutation.specs.Forms.{form_data}
use Rattle.refutation.specs.Refutation.{rule_of}
use Rattle.refutation.proofs.Levels.{no_level, too_long, one_level}
use Rattle.refutation.proofs.reading.+tree.Goals as goal

pub tree_of_form-returns-then-left-eq0 : goal.tree_of_form-returns-then-left-eq0
tree_of_form-returns-then-left-eq0 g t c = no_level c.args.left (form_data g.N.Node.means c.args.form) c.if-left-eq0.true

pub tree_of_form-returns-then-not-is_short : goal.tree_of_form-returns-then-not-is_short
tree_of_form-returns-then-not-is_short g t c = too_long c.args.left (form_data g.N.Node.means c.args.form) (sym c.is_short.ensures ∙ c.if-not-is_short.true)

pub tree_of_form-returns : goal.tree_of_form-returns
tree_of_form-returns g t c = subst (λ r. Gives rule_of c.tree_of_branches.result r) (one_level c.args.left (c.args.left - 1) (form_data g.N.Node.means c.args.form) (omega arith) (sym c.is_short.ensures ∙ c.if-not-is_short.false)) c.tree_of_branches.ensures
