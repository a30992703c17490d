-- The formula of an expression.
use Rattle.std.specs.Prelude.{ℕ, List, [], ◌∷◌}
use Rattle.quorum_expr.specs.declared.expression.Expr.{Expr}
use Rattle.quorum_expr.specs.declared.expression.Expr.TheOpen.{Expr-F, Member, KOf}
use Rattle.quorum_expr.specs.declared.expression.Expr.TheFolds.{fold-Expr}
use Rattle.volume_model.specs.Common.{Formula, Children, at_least, no_child, child}
use Rattle.volume_model.specs.Formula.{member}

-- children with their weights; f gives the formula of each
abbrev pub weighed : {X : Type 0} → (X → Formula) → List (ℕ × X) → Children
weighed f [] = no_child
weighed f (x ∷ xs) = child x.0 (f x.1) (weighed f xs)

-- one level of an expression, given the formulas of its children
abbrev pub formula_step : {A : Type 0} → Expr-F A Formula → Formula
formula_step (Member x) = member x
formula_step (KOf k of) = at_least k (weighed (λ f. f) of.items)

-- the formula of an expression, in any allocator
abbrev pub formula_of : {A : Type 0} → Expr A → Formula
formula_of {A} = fold-Expr A Formula formula_step
