-- The formulas of members and of thresholds.
use Rattle.std.proofs.Common.{◌≡◌, ℕ, map, rules, ap, ◌∙◌, Vec}
use Rattle.volume_model.specs.Common.{at_least}
use Rattle.volume_model.specs.Formula.{member}
use Rattle.quorum_expr.specs.declared.expression.Expr.{Expr}
use Rattle.quorum_expr.specs.declared.expression.Expr.TheVariants.{Member, KOf}
use Rattle.quorum_expr.specs.declared.expression.Expr.TheFolds.{the_lemmas}
use Rattle.quorum_expr.specs.Expr.{formula_of, weighed}
use Rattle.quorum_expr.proofs.Weighed.{seen, weighed-seen}

pub formula_of-Member : (A : Type 0) (m : ℕ) → formula_of {A = A} (Member m) ≡ member m
formula_of-Member A m = search (rules, the_lemmas)

pub formula_of-KOf : {A : Type 0} (k : ℕ) (of : Vec (ℕ × Expr A) A) → formula_of (KOf k of) ≡ at_least k (weighed formula_of of.items)
formula_of-KOf {A} k of =
    let seen : formula_of {A = A} (KOf k of) ≡ at_least k (weighed (λ g. g) (map (seen (formula_of {A = A})) of.items)) = search (rules, the_lemmas) in
    seen ∙ ap (at_least k) (weighed-seen formula_of of.items)
