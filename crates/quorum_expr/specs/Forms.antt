-- Views of the types that the reader uses.
use Rattle.std.specs.Prelude.{◌≡◌, ℕ, ◌+◌, List, [], ◌∷◌, map, Some, None}
use Rattle.serde_json.specs.Data.{Data}
use Rattle.quorum_expr.specs.Nodes.{items_in}
use Rattle.volume_model.specs.Common.{Formula}
use Rattle.quorum_expr.specs.declared.expression.Expr.{Expr}
use Rattle.quorum_expr.specs.declared.form.Children.{Children}
use Rattle.quorum_expr.specs.declared.form.Children.TheVariants as children
use Rattle.quorum_expr.specs.declared.form.Form as declared
use Rattle.quorum_expr.specs.declared.form.Form.TheVariants as forms
use Rattle.quorum_expr.specs.Expr.{formula_of}
use Rattle.quorum_expr.specs.declared.form.Weights as declared_weights
use Rattle.quorum_expr.specs.declared.form.Weights.TheVariants as weights
use Rattle.quorum_expr.specs.Reading.{ChildList, each, named, Weights, Form, single, choice, weight_of}

abbrev pub child_list : {N : Type 0} → (N → Data) → Children N → ChildList
child_list means (children.Each n) = each (items_in (means n))
child_list means (children.Named name) = named name

abbrev pub weights_data : declared_weights.Weights → Weights
weights_data weights.Once = None
weights_data (weights.Each v) = Some v.items

abbrev pub form_data : {N : Type 0} → (N → Data) → declared.Form N → Form
form_data means (forms.Single n) = single n
form_data means (forms.Choice k list ws) = choice k (child_list means list) (weights_data ws)

-- the formulas of weighted expressions
abbrev pub formulas_of : {A : Type 0} → List (ℕ × Expr A) → List Formula
formulas_of = map (λ c. formula_of c.1)

-- the children have these weights, of which the first belongs to child i
abbrev pub HaveWeights : {A : Type 0} → Weights → ℕ → List (ℕ × Expr A) → Type 0
HaveWeights ws i [] = Unit {0}
HaveWeights ws i (c ∷ cs) = (c.0 ≡ weight_of ws i) × HaveWeights ws (i + 1) cs
