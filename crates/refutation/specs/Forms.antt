-- Views of the types that the reader uses.
use Rattle.std.specs.Prelude.{List, map}
use Rattle.serde_json.specs.Data.{Data}
use Rattle.quorum_expr.specs.Common.{items_in}
use Rattle.refutation.specs.declared.Refutation.{Refutation}
use Rattle.refutation.specs.declared.form.Form as declared
use Rattle.refutation.specs.declared.form.Form.TheVariants as forms
use Rattle.refutation.specs.Rule.{Rule}
use Rattle.refutation.specs.Refutation.{rule_of}
use Rattle.refutation.specs.Reading.{Form, dead_form, clash_form, open_form, pick_form, match_form, split_form}

abbrev pub form_data : {N : Type 0} → (N → Data) → declared.Form N → Form
form_data means (forms.Dead side item) = dead_form side item
form_data means (forms.Clash left right) = clash_form left right
form_data means (forms.Open side item node) = open_form side item (means node)
form_data means (forms.Pick side item children list) = pick_form side item children.items (items_in (means list))
form_data means (forms.Match left right pairs list) = match_form left right pairs.items (items_in (means list))
form_data means (forms.Split member left right) = split_form member (means left) (means right)

abbrev pub rules_of : {A : Type 0} → List (Refutation A) → List Rule
rules_of = map rule_of
