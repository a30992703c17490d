-- What was written of a plan with other certificates.
use Rattle.std.specs.Prelude.{◌≡◌, ℕ, ◌≤◌, false, List, map, Option, Some, Result, Ok, option_map, codes}
use Rattle.std.specs.declared.alloc.Global.{Global}
use Rattle.std.specs.Str.{IsUtf8}
use Rattle.json.specs.Written.{Written}
use Rattle.serde_json.specs.Data.{Data, array, depth, Items, Members, member, no_members}
use Rattle.serde_json.specs.Read.{read, max_depth}
use Rattle.serde_json.specs.View.{items_of}
use Rattle.serde_json.specs.Written.{has_float, compact_text}
use Rattle.volume_model.specs.declared.fault.Fault.{Fault}
use Rattle.volume_model.specs.Common.{◌>>=◌}
use Rattle.refutation.specs.Common.{Rule, certificate_rule, number_data}
use Rattle.refutation.specs.declared.certificate.Certificate.{Certificate}
use Rattle.plan.specs.Rewriting.{configurations_written, groups_written}
use Rattle.plan.specs.declared.formats.Format.{Format}
use Rattle.plan.specs.declared.formats.Format.TheVariants.{Plain, Weighted, Growing}
use Rattle.plan.specs.Puts.{Puts, Opens}

-- the rules of certificates
abbrev pub rules_in : List (Option (Certificate Global)) → List (Option Rule)
rules_in = map (option_map certificate_rule)

-- The value that is defined was written.
pub record PutsMade (made : Result Data Fault) (old new : Written) : Type 0 where
  pub value : Data
  pub is : made ≡ Ok value
  pub puts : Puts value old new

abbrev pub configurations_array : Items → List Data → Result Data Fault
configurations_array ds certificates = configurations_written 0 ds certificates >>= λ xs. Ok (array (items_of xs))

abbrev pub groups_array : Items → List Data → Result Data Fault
groups_array ds certificates = groups_written ds certificates >>= λ xs. Ok (array (items_of xs))

-- the number of groups at birth, if the format has it
abbrev pub born_members : Format → ℕ → Members
born_members Plain born = no_members
born_members Weighted born = no_members
born_members Growing born = member (codes "born") (number_data born) no_members

-- The number of groups at birth was written, if the format has it, into an object that was begun.
abbrev pub PutsBorn : Format → ℕ → Written → Written → Type 0
PutsBorn format born old new = (start : Written) → Opens no_members start old → Opens (born_members format born) start
    new

-- The bytes are the text of a value: the value is read back from them, and they have no spaces if it has no float.
pub record IsTextOf (d : Data) (bytes : List ℕ) : Type 0 where
  pub utf8 : IsUtf8 bytes
  pub back : depth d ≤ max_depth → read bytes ≡ Some d
  pub compact : has_float d ≡ false → bytes ≡ compact_text d
