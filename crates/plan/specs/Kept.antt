-- The values of a plan's text without its certificates. Weights and names of lists are as they are written.
use Rattle.std.specs.Prelude.{◌≡◌, ℕ, List, [], ◌∷◌, Result, Ok, IsOkAnd}
use Rattle.serde_json.specs.Data.{Data, null, Items, no_items, item}
use Rattle.volume_model.specs.declared.fault.Fault.{Fault}
use Rattle.volume_model.specs.Common.{◌>>=◌}
use Rattle.plan.specs.declared.formats.Format.{Format}
use Rattle.plan.specs.PlanText.{Fields, fields_of, group_items, header_of, json_of, value_of}

-- the values of a configuration, with null for its certificates
abbrev pub without_certificates : Fields → Fields
without_certificates f = record f { meets = null; step = null }

-- the values of an object, with null for its certificates
abbrev pub own_fields : Data → Result Fields Fault
own_fields d = fields_of d >>= λ f. Ok (without_certificates f)

-- the same for each configuration of a group
abbrev pub each_own : Items → Result (List Fields) Fault
each_own no_items = Ok []
each_own (item d ds) = own_fields d >>= λ f. each_own ds >>= λ fs. Ok (f ∷ fs)

-- the same for each group
abbrev pub groups_own : Items → Result (List (List Fields)) Fault
groups_own no_items = Ok []
groups_own (item d ds) = group_items d >>= λ cs. each_own cs >>= λ fs. groups_own ds >>= λ gs. Ok (fs ∷ gs)

-- The values of a plan without its certificates. Expressions are JSON values.
pub record OwnValues : Type 0 where
  pub format : Format
  pub lal : ℕ
  pub born : ℕ
  pub groups : List (List Fields)

unfoldable pub own_values : Data → Result OwnValues Fault
own_values d = header_of d >>= λ h. groups_own h.groups >>= λ gs. Ok
    (record { format = h.format; lal = h.lal; born = h.born; groups = gs })

-- The bytes have the same values as the text, except certificates.
abbrev pub KeepsValues : List ℕ → List ℕ → Type 0
KeepsValues text bytes = IsOkAnd (value_of text >>= own_values) (λ values. (json_of bytes >>= own_values) ≡ Ok values)
