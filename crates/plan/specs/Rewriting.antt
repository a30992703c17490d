-- The JSON of a plan with other certificates; all other values are kept.
use Rattle.std.specs.Prelude.{ℕ, ◌+◌, ◌-◌, ◌*◌, ◌==◌, List, [], ◌∷◌, drop, Result, Ok, codes, slice_index_or, if◌then◌else◌}
use Rattle.serde_json.specs.Data as json
use Rattle.serde_json.specs.Data.{Data, null, unsigned, Items, no_items, item, no_members}
use Rattle.serde_json.specs.Events.{items_len}
use Rattle.serde_json.specs.View.{items_of}
use Rattle.volume_model.specs.declared.fault.Fault.{Fault}
use Rattle.volume_model.specs.Common.{◌>>=◌}
use Rattle.plan.specs.declared.formats.Format.{Format}
use Rattle.plan.specs.declared.formats.Format.TheVariants.{Plain, Weighted, Growing}
use Rattle.plan.specs.Formats.{number_of}
use Rattle.plan.specs.PlanText.{Fields, fields_of, group_items, header_of}

-- the value at a place, or null
abbrev pub value_or_null : List Data → ℕ → Data
value_or_null certificates i = slice_index_or certificates i null

-- a configuration's values with other certificates
abbrev pub fields_object : Fields → Data → Data → Data
fields_object f meets step =
    json.object (json.member (codes "full") f.full (json.member (codes "meets") meets
    (json.member (codes "members") f.members (json.member (codes "parent") f.parent
    (json.member (codes "read") f.read (json.member (codes "step") step (json.member (codes "write") f.write
    no_members)))))))

-- The certificates of a group are in order of its claims: one for configuration 0, and two for each other.
abbrev pub meets_value : ℕ → List Data → Data
meets_value c certificates = value_or_null certificates (2 * c - 1)

abbrev pub step_value : ℕ → List Data → Data
step_value c certificates = if c == 0 then null else value_or_null certificates (2 * c)

unfoldable pub configuration_written : ℕ → Data → List Data → Result Data Fault
configuration_written c d certificates = fields_of d >>= λ f. Ok (fields_object f (meets_value c certificates)
    (step_value c certificates))

-- the configurations, of which the first has number c
abbrev pub configurations_written : ℕ → Items → List Data → Result (List Data) Fault
configurations_written c no_items certificates = Ok []
configurations_written c (item d ds) certificates =
    configuration_written c d certificates >>= λ x. configurations_written (c + 1) ds certificates >>= λ xs. Ok (x ∷ xs)

abbrev pub group_object : List Data → Data
group_object xs = json.object (json.member (codes "configurations") (json.array (items_of xs)) no_members)

unfoldable pub group_written : Items → List Data → Result Data Fault
group_written ds certificates = configurations_written 0 ds certificates >>= λ xs. Ok (group_object xs)

-- the groups, each with the certificates that remain after those before it
abbrev pub groups_written : Items → List Data → Result (List Data) Fault
groups_written no_items certificates = Ok []
groups_written (item d ds) certificates =
    group_items d >>= λ cs. group_written cs certificates >>= λ x. groups_written ds
    (drop (2 * items_len cs - 1) certificates) >>= λ xs. Ok (x ∷ xs)

-- the values that a plan has in each format
abbrev pub plan_members : Format → ℕ → List Data → json.Members
plan_members format lal xs =
    json.member (codes "format") (json.number (unsigned (number_of format)))
    (json.member (codes "groups") (json.array (items_of xs)) (json.member (codes "lal") (json.number (unsigned lal))
    no_members))

-- A plan; only format 3 has the number of groups at birth.
abbrev pub plan_object : Format → ℕ → ℕ → List Data → Data
plan_object Plain lal born xs = json.object (plan_members Plain lal xs)
plan_object Weighted lal born xs = json.object (plan_members Weighted lal xs)
plan_object Growing lal born xs = json.object (json.member (codes "born") (json.number (unsigned born))
    (plan_members Growing lal xs))

-- the plan with these certificates
unfoldable pub plan_written : Data → List Data → Result Data Fault
plan_written d certificates = header_of d >>= λ h. groups_written h.groups certificates >>= λ xs. Ok
    (plan_object h.format h.lal h.born xs)
