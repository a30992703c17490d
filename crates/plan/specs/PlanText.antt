-- Reading a plan from a text: the plan, or its first fault in reading order.
use Rattle.std.specs.Prelude.{◌≡◌, ◌≢◌, ℕ, ◌≤◌, ◌+◌, ◌&&◌, ◌==◌, Bool, true, false, List, [], ◌∷◌, length, Option, Some, None, Result, Ok, Err, nat_le, codes, if◌then◌else◌}
use Rattle.std.specs.Str.{is_utf8}
use Rattle.std.specs.Ordering.{nat_cmp}
use Rattle.std.specs.FinSet.{FinSet, empty, insert, is_subset}
use Rattle.serde_json.specs.Data.{Data, null, boolean, number, string, array, object, Items, no_items, item}
use Rattle.serde_json.specs.Events.{items_len}
use Rattle.serde_json.specs.Read.{read}
use Rattle.volume_model.specs.declared.fault.Fault.{Fault}
use Rattle.volume_model.specs.declared.fault.Fault.TheVariants.{NoMemory, BadCount, TooDeep, NotAMember, Malformed, OverLimit}
use Rattle.volume_model.specs.Common.{◌>>=◌, Formula}
use Rattle.quorum_expr.specs.declared.form.Lists.{Lists}
use Rattle.quorum_expr.specs.Common.{found_or_malformed, at_key, whole_of, expression_in}
use Rattle.refutation.specs.Common.{Rule, has_keys, array_of, number_to, certificate_in}
use Rattle.plan.specs.declared.fault.Quorum.{Quorum}
use Rattle.plan.specs.declared.fault.Quorum.TheVariants.{Read, Write}
use Rattle.plan.specs.declared.fault.PlanFault.{PlanFault}
use Rattle.plan.specs.declared.fault.PlanFault.TheVariants.{Text, Expression}
use Rattle.plan.specs.declared.formats.Format.{Format}
use Rattle.plan.specs.declared.formats.Format.TheVariants.{Plain, Weighted, Growing}
use Rattle.plan.specs.Formats.{is_weighted, key_count}
use Rattle.plan.specs.PlanData.{ConfigurationData, PlanData}

-- ---- faults of a plan

-- one step after another, up to the first fault
infixl 10 ◌>=>◌
abbrev pub ◌>=>◌ : {A B : Type 0} → Result A PlanFault → (A → Result B PlanFault) → Result B PlanFault
(Ok x) >=> f = f x
(Err e) >=> f = Err e

-- a fault of the text itself
abbrev pub in_text : {A : Type 0} → Result A Fault → Result A PlanFault
in_text (Ok x) = Ok x
in_text (Err fault) = Err (Text fault)

-- what a call returned, seen by view, is what the definition gives, unless memory ran out
abbrev pub Reads : {X Y : Type 0} → (X → Y) → Result X PlanFault → Result Y PlanFault → Type 0
Reads view (Ok x) defined = defined ≡ Ok (view x)
Reads view (Err fault) defined = fault ≢ Text NoMemory → defined ≡ Err fault

-- ---- a configuration

-- the values at the keys of a configuration
pub record Fields : Type 0 where
  pub parent : Data
  pub members : Data
  pub full : Data
  pub read : Data
  pub write : Data
  pub meets : Data
  pub step : Data

-- the values of an object that has these keys and no others
unfoldable pub fields_of : Data → Result Fields Fault
fields_of d =
    has_keys 7 d >>= λ u. at_key (codes "parent") d >>= λ parent. at_key (codes "members") d >>= λ members. at_key
    (codes "full") d >>= λ full. at_key (codes "read") d >>= λ reads. at_key (codes "write") d >>= λ writes.
    at_key (codes "meets") d >>= λ meets. at_key (codes "step") d >>= λ step. Ok (record {
      parent = parent;
      members =
          members;
      full = full;
      read = reads;
      write = writes;
      meets = meets;
      step = step;
    })

-- null, or a whole number from 0
abbrev pub parent_of : Data → Result (Option ℕ) Fault
parent_of null = Ok None
parent_of (number n) = whole_of (number n) >>= λ p. Ok (Some p)
parent_of (boolean b) = Err Malformed
parent_of (string s) = Err Malformed
parent_of (array ds) = Err Malformed
parent_of (object ms) = Err Malformed

-- the set with more members, in growing order: each is below 64 and at least the least
abbrev pub members_from : ℕ → FinSet nat_cmp → Items → Result (FinSet nat_cmp) Fault
members_from least s no_items = Ok s
members_from least s (item d ds) = number_to 63 d >>= λ n. if nat_le least n then members_from (n + 1) (insert s n) ds
    else Err Malformed

-- members in growing order
unfoldable pub members_of : Data → Result (FinSet nat_cmp) Fault
members_of d = array_of d >>= members_from 0 empty

-- the same, with at least one member
unfoldable pub some_members_of : Data → Result (FinSet nat_cmp) Fault
some_members_of d = array_of d >>= λ ds. if nat_le 1 (items_len ds) then members_from 0 empty ds else Err Malformed

-- the members, those of them that are full, and whether expressions may have weights
unfoldable pub lists_of : Bool → Fields → Result Lists Fault
lists_of w f = some_members_of f.members >>= λ members. members_of f.full >>= λ full. if is_subset full members then Ok
    (record { members = members; full = full; is_weighted = w }) else Err Malformed

-- the error for a fault of an expression: with its place if it is one of the plan, else as a fault of the text
abbrev pub expression_error : ℕ → ℕ → Quorum → Fault → PlanFault
expression_error g c quorum BadCount = Expression BadCount g c quorum
expression_error g c quorum TooDeep = Expression TooDeep g c quorum
expression_error g c quorum NotAMember = Expression NotAMember g c quorum
expression_error g c quorum fault = Text fault

abbrev pub in_quorum : ℕ → ℕ → Quorum → Result Formula Fault → Result Formula PlanFault
in_quorum g c quorum (Ok f) = Ok f
in_quorum g c quorum (Err fault) = Err (expression_error g c quorum fault)

-- null, or a certificate
abbrev pub certificate_or_null : Data → Result (Option Rule) Fault
certificate_or_null null = Ok None
certificate_or_null (boolean b) = certificate_in (boolean b) >>= λ r. Ok (Some r)
certificate_or_null (number n) = certificate_in (number n) >>= λ r. Ok (Some r)
certificate_or_null (string s) = certificate_in (string s) >>= λ r. Ok (Some r)
certificate_or_null (array ds) = certificate_in (array ds) >>= λ r. Ok (Some r)
certificate_or_null (object ms) = certificate_in (object ms) >>= λ r. Ok (Some r)

abbrev pub is_null : Data → Bool
is_null null = true
is_null (boolean b) = false
is_null (number n) = false
is_null (string s) = false
is_null (array ds) = false
is_null (object ms) = false

-- the certificate of a step, which a root doesn't have
unfoldable pub step_of : ℕ → Data → Result (Option Rule) Fault
step_of c d = if c == 0 then (if is_null d then Ok None else Err Malformed) else certificate_or_null d

-- the configuration of a value, with weights or without; its keys are tested first, then each field in order
unfoldable pub configuration_in : Bool → ℕ → ℕ → Data → Result ConfigurationData PlanFault
configuration_in w g c d =
    in_text (fields_of d) >=> λ f. in_text (parent_of f.parent) >=> λ parent. in_text (lists_of w f) >=> λ lists.
    in_quorum g c Read (expression_in lists f.read) >=> λ reads. in_quorum g c Write (expression_in lists f.write) >=> λ
    writes.
    in_text (certificate_or_null f.meets) >=> λ meets. in_text (step_of c f.step) >=> λ step.
    Ok (record {
      parent = parent;
      members = lists.members;
      full = lists.full;
      read = reads;
      write = writes;
      meets =
          meets;
      step = step;
    })

-- ---- groups

-- the configurations of values, of which the first has number c, up to the first fault
abbrev pub configurations_in : Bool → ℕ → ℕ → Items → Result (List ConfigurationData) PlanFault
configurations_in w g c no_items = Ok []
configurations_in w g c (item d ds) = configuration_in w g c d >=> λ x. configurations_in w g (c + 1) ds >=> λ xs. Ok
    (x ∷ xs)

-- from 1 to a limit
abbrev pub is_from_1 : ℕ → ℕ → Bool
is_from_1 most n = nat_le 1 n && nat_le n most

-- an object with the only key configurations, which has an array of 1 to 64 values
unfoldable pub group_items : Data → Result Items Fault
group_items d = has_keys 1 d >>= λ u. at_key (codes "configurations") d >>= λ cs. array_of cs >>= λ ds. if is_from_1 64
    (items_len ds) then Ok ds else Err OverLimit

unfoldable pub group_in : Bool → ℕ → Data → Result (List ConfigurationData) PlanFault
group_in w g d = in_text (group_items d) >=> configurations_in w g 0

-- the groups of values, of which the first has number g, up to the first fault
abbrev pub groups_in : Bool → ℕ → Items → Result (List (List ConfigurationData)) PlanFault
groups_in w g no_items = Ok []
groups_in w g (item d ds) = group_in w g d >=> λ x. groups_in w (g + 1) ds >=> λ xs. Ok (x ∷ xs)

-- ---- a whole plan

-- the format, and the values at the other keys of a plan; only format 3 has the number of groups at birth
pub record TopFields : Type 0 where
  pub format : Format
  pub lal : Data
  pub born : Option Data
  pub groups : Data

-- the format, the LAL, the number of groups at birth, and the values of the groups
pub record Header : Type 0 where
  pub format : Format
  pub lal : ℕ
  pub born : ℕ
  pub groups : Items

-- a list of 1 to 16 values
unfoldable pub group_list : Data → Result Items Fault
group_list d = array_of d >>= λ ds. if is_from_1 16 (items_len ds) then Ok ds else Err OverLimit

-- a whole number from 1 to 10,000,000
unfoldable pub lal_of : Data → Result ℕ Fault
lal_of d = whole_of d >>= λ n. if is_from_1 10000000 n then Ok n else Err OverLimit

-- one of the numbers 1 to 3
unfoldable pub format_of : Data → Result Format Fault
format_of d = whole_of d >>= λ n. if n == 1 then Ok Plain else
    (if n == 2 then Ok Weighted else (if n == 3 then Ok Growing else Err Malformed))

-- the value at the key born, in format 3
abbrev pub born_field : Format → Data → Result (Option Data) Fault
born_field Plain d = Ok None
born_field Weighted d = Ok None
born_field Growing d = at_key (codes "born") d >>= λ b. Ok (Some b)

-- an object with the keys format, lal and groups only, and in format 3 also born
unfoldable pub top_fields_of : Data → Result TopFields Fault
top_fields_of d =
    at_key (codes "format") d >>= λ f. format_of f >>= λ format. has_keys (key_count format) d >>= λ u. at_key
    (codes "lal") d >>= λ lal. born_field format d >>= λ born. at_key (codes "groups") d >>= λ groups.
    Ok (record { format = format; lal = lal; born = born; groups = groups })

-- the number of groups at birth: all if the format doesn't have it, else a whole number from 1 to their number
abbrev pub born_of : ℕ → Option Data → Result ℕ Fault
born_of groups None = Ok groups
born_of groups (Some d) = whole_of d >>= λ n. if is_from_1 groups n then Ok n else Err OverLimit

-- the head of a plan; its keys are tested first, then each field in order
unfoldable pub header_of : Data → Result Header Fault
header_of d =
    top_fields_of d >>= λ top. lal_of top.lal >>= λ lal. group_list top.groups >>= λ groups. born_of (items_len groups)
    top.born >>= λ born.
    Ok (record { format = top.format; lal = lal; born = born; groups = groups })

-- the plan of a value
unfoldable pub plan_in : Data → Result PlanData PlanFault
plan_in d =
    in_text (header_of d) >=> λ header. groups_in (is_weighted header.format) 0 header.groups >=> λ groups.
    Ok (record { format = header.format; lal = header.lal; born = header.born; groups = groups })

-- the JSON value of a text
unfoldable pub json_of : List ℕ → Result Data Fault
json_of text = if is_utf8 text then found_or_malformed (read text) else Err Malformed

-- the text has at most 16,777,216 bytes
abbrev pub IsWithinSize : List ℕ → Type 0
IsWithinSize text = length text ≤ 16777216

-- the JSON value of a text of at most 16,777,216 bytes
unfoldable pub value_of : List ℕ → Result Data Fault
value_of text = if nat_le (length text) 16777216 then json_of text else Err OverLimit

-- the plan of a text
unfoldable pub plan_of : List ℕ → Result PlanData PlanFault
plan_of text = in_text (value_of text) >=> plan_in
