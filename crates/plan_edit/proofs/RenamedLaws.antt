-- The formulas of expressions in which a member was replaced.
use Rattle.std.proofs.Common.{◌≡◌, ℕ, List, [], ◌∷◌, refl, ap, ◌∙◌, Vec}
use Rattle.volume_model.specs.Common.{at_least, child}
use Rattle.quorum_expr.specs.declared.expression.Expr.{Expr}
use Rattle.quorum_expr.specs.declared.expression.Expr.TheVariants.{KOf}
use Rattle.quorum_expr.specs.Common.{formula_of, weighed}
use Rattle.quorum_expr.proofs.ExprLaws.{formula_of-KOf}
use Rattle.plan_edit.specs.Renamed.{renamed, each_renamed}

-- children, child by child
each_renamed-weighed : {A : Type 0} (old new : ℕ) (xs : List (ℕ × Expr A)) → each_renamed old new (weighed formula_of xs) ≡ weighed (λ e. renamed old new (formula_of e)) xs
each_renamed-weighed old new [] = refl
each_renamed-weighed old new (x ∷ xs) = ap (child x.0 (renamed old new (formula_of x.1))) (each_renamed-weighed old new xs)

-- a threshold, child by child
pub renamed-KOf : {A : Type 0} (old new k : ℕ) (e : Expr A) (of : Vec (ℕ × Expr A) A) → e ≡ KOf k of → renamed old new (formula_of e) ≡ at_least k (weighed (λ x. renamed old new (formula_of x)) of.items)
renamed-KOf old new k e of is =
    ap (λ x. renamed old new (formula_of x)) is ∙ ap (renamed old new) (formula_of-KOf k of) ∙ ap (at_least k) (each_renamed-weighed old new of.items)
