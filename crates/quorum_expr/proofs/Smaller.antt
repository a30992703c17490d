-- A child has fewer nodes than the whole.
use Rattle.std.proofs.Common.{◌≡◌, ℕ, zero, suc, ◌+◌, ◌<◌, ◌≤◌, List, [], ◌∷◌, length, get_or, arith, ap, ◌∙◌, sym, Vec}
use Rattle.quorum_expr.specs.declared.expression.Expr.{Expr}
use Rattle.quorum_expr.specs.declared.expression.Expr.TheVariants.{KOf}
use Rattle.quorum_expr.specs.Expr.{formula_of, weighed}
use Rattle.quorum_expr.specs.Valid.{nodes, row_nodes}
use Rattle.quorum_expr.proofs.Tested.{nodes-is}

-- an element has at most the nodes of all
nodes_within : {A : Type 0} (xs : List (ℕ × Expr A)) (i : ℕ) (x : ℕ × Expr A) → i < length xs → x ≡ get_or xs i x → nodes (formula_of x.1) ≤ row_nodes (weighed formula_of xs)
nodes_within [] i x h is = absurd (omega arith)
nodes_within (y ∷ ys) zero x h is = let same : nodes (formula_of x.1) ≡ nodes (formula_of y.1) = ap (λ e. nodes (formula_of e.1)) is in omega (arith, same)
nodes_within (y ∷ ys) (suc i) x h is = let rest : nodes (formula_of x.1) ≤ row_nodes (weighed formula_of ys) = nodes_within ys i x (omega arith) is in omega (arith, rest)

-- so the child at hand has fewer than the threshold
pub smaller : {A : Type 0} (e : Expr A) (k : ℕ) (of : Vec (ℕ × Expr A) A) (xs : List (ℕ × Expr A)) (i : ℕ) (x : ℕ × Expr A) (t : ℕ) → e ≡ KOf k of → xs ≡ of.items → i < length xs → x ≡ get_or xs i x → nodes (formula_of e) ≡ t → nodes (formula_of x.1) < t
smaller e k of xs i x t whole list h is size =
    let all : nodes (formula_of e) ≡ 1 + row_nodes (weighed formula_of xs) = nodes-is e k of whole ∙ ap (λ ys. 1 + row_nodes (weighed formula_of ys)) (sym list) in
    let part : nodes (formula_of x.1) ≤ row_nodes (weighed formula_of xs) = nodes_within xs i x h is in
    omega (arith, all, part, size)
