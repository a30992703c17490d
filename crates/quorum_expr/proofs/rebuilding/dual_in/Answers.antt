use Rattle.std.proofs.Common.{◌≡◌, ap, ◌∙◌, Ok, Err, Result, IfOk, None, not}
use Rattle.volume_model.specs.declared.fault.Fault.{Fault}
use Rattle.volume_model.specs.Common.{Gives, Formula, Members, sat, dual_of}
use Rattle.volume_model.proofs.FormulaLaws.{sat-dual_of}
use Rattle.quorum_expr.specs.declared.expression.Expr.{Expr}
use Rattle.quorum_expr.specs.Expr.{formula_of}
use Rattle.quorum_expr.specs.Valid.{expression_fault}
use Rattle.quorum_expr.proofs.ValidLaws.{HasCounts-from, valid-dual_of}
use Rattle.quorum_expr.proofs.Rebuilt.{given}
use Rattle.quorum_expr.proofs.rebuilding.dual_in.Goals as goal

pub dual_formula-requires : goal.dual_formula-requires
dual_formula-requires g c = HasCounts-from (formula_of c.args.expr.now) c.requires

law : {B : Type 0} (r : Result (Expr B) Fault) (f : Formula) → expression_fault f ≡ None → Gives formula_of r (Ok (dual_of f)) → IfOk r (λ dual. (s : Members) → sat (formula_of dual) s ≡ not (sat f (λ x. not (s x))))
law (Ok dual) f valid h = λ s. ap (λ g. sat g s) (given _ _ h) ∙ sat-dual_of f s (HasCounts-from f valid)
law (Err e) f valid h = tt

too : {B : Type 0} (r : Result (Expr B) Fault) (f : Formula) → expression_fault f ≡ None → Gives formula_of r (Ok (dual_of f)) → IfOk r (λ dual. expression_fault (formula_of dual) ≡ None)
too (Ok dual) f valid h = ap expression_fault (given _ _ h) ∙ valid-dual_of f valid
too (Err e) f valid h = tt

pub returns-clause-law : goal.returns-clause-law
returns-clause-law g c = law c.dual_formula.result (formula_of c.args.expr.now) c.requires c.dual_formula.ensures

pub returns-clause-valid : goal.returns-clause-valid
returns-clause-valid g c = too c.dual_formula.result (formula_of c.args.expr.now) c.requires c.dual_formula.ensures
