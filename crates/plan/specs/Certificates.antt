-- The certificates of claims as JSON; null if there is none.
use Rattle.std.specs.Prelude.{◌≡◌, ℕ, ◌≤◌, List, map, Option, Some, None, Ok, option_map, codes}
use Rattle.std.specs.declared.alloc.Global.{Global}
use Rattle.json.specs.Token.{Token, end_object}
use Rattle.json.specs.Written.{Written}
use Rattle.serde_json.specs.Data.{Data, null, array, depth, Members, no_members, member}
use Rattle.refutation.specs.declared.Side.{Side}
use Rattle.refutation.specs.Common.{Rule, certificate_rule, number_data, numbers_data, pairs_data, certificate_data}
use Rattle.refutation.specs.declared.certificate.Certificate.{Certificate}
use Rattle.plan.specs.PlanText.{certificate_or_null}
use Rattle.plan.specs.Heads.{rule_first, side_members}
use Rattle.plan.specs.Puts.{PutsToken, PutsMember, Opens}

-- the value of a certificate, or null
abbrev pub certificate_value : Option Rule → Data
certificate_value None = null
certificate_value (Some rule) = certificate_data rule

-- the values of certificates, in order
abbrev pub certificate_values : List (Option (Certificate Global)) → List Data
certificate_values certificates = map (λ c. certificate_value (option_map certificate_rule c)) certificates

-- The value of a certificate is read back as that certificate, and nests at most 81 deep.
pub record IsReadBack (certificate : Option Rule) : Type 0 where
  pub read : certificate_or_null (certificate_value certificate) ≡ Ok certificate
  pub nests : depth (certificate_value certificate) ≤ 81

-- the keys and values of a pick before its branches
abbrev pub pick_members : Side → ℕ → List ℕ → Members
pick_members side item children = member (codes "children") (array (numbers_data children))
    (side_members (codes "pick") side item)

-- the keys and values of a match before its branches
abbrev pub match_members : ℕ → ℕ → List (ℕ × ℕ) → Members
match_members left right pairs = member (codes "left") (number_data left) (member (codes "pairs") (array (pairs_data pairs)) (member (codes "right") (number_data right) (rule_first (codes "match") no_members)))

-- An object was begun; these keys and values were written, and one more key.
pub record OpensTo (found : Members) (k : List ℕ) (old new : Written) : Type 0 where
  pub between : Written
  pub members : Opens found old between
  pub key : PutsToken (Token.key k) between new

-- A key was written with its value, and one more key.
pub record PutsBetween (k : List ℕ) (d : Data) (l : List ℕ) (old new : Written) : Type 0 where
  pub between : Written
  pub first : PutsMember k d old between
  pub key : PutsToken (Token.key l) between new

-- A key was written with its value, and the end of an object.
pub record PutsLast (k : List ℕ) (d : Data) (old new : Written) : Type 0 where
  pub between : Written
  pub last : PutsMember k d old between
  pub end : PutsToken end_object between new
