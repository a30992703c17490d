-- Views of the code's parts of a plan.
use Rattle.std.specs.Prelude.{option_map}
use Rattle.serde_json.specs.Data.{Data}
use Rattle.quorum_expr.specs.Common.{items_in}
use Rattle.plan.specs.declared.fields.Fields as declared
use Rattle.plan.specs.declared.fields.TopFields as tops
use Rattle.plan.specs.declared.fields.Header as headers
use Rattle.plan.specs.PlanText.{Fields, TopFields, Header}

abbrev pub fields_data : {N : Type 0} → (N → Data) → declared.Fields N → Fields
fields_data means f = record {
  parent = means f.parent;
  members = means f.members;
  full = means f.full;
  read = means f.read;
  write = means f.write;
  meets = means f.meets;
  step = means f.step;
}

abbrev pub top_fields_data : {N : Type 0} → (N → Data) → tops.TopFields N → TopFields
top_fields_data means f = record {
  format = f.format;
  lal = means f.lal;
  born = option_map means f.born;
  groups = means
      f.groups;
}

abbrev pub header_data : {N : Type 0} → (N → Data) → headers.Header N → Header
header_data means h = record { format = h.format; lal = h.lal; born = h.born; groups = items_in (means h.groups) }
