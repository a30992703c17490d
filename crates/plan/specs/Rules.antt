-- The JSON of a rule's branches.
use Rattle.std.specs.Prelude.{List, map}
use Rattle.serde_json.specs.Data.{Data, array}
use Rattle.refutation.specs.declared.Refutation.{Refutation}
use Rattle.refutation.specs.Common.{branches_of, rule_of, EachHasRanges, certificate_data, branches_data}

-- the JSON of a refutation
abbrev pub rule_data : {A : Type 0} → Refutation A → Data
rule_data r = certificate_data (rule_of r)

-- the JSON of branches, in order
abbrev pub rules_data : {A : Type 0} → List (Refutation A) → Data
rules_data rs = array (branches_data (branches_of (map rule_of rs)))

-- the numbers of each rule are in their ranges
abbrev pub EachInRange : {A : Type 0} → List (Refutation A) → Type 0
EachInRange rs = EachHasRanges (branches_of (map rule_of rs))
