-- Thresholds of which the first two keys were written.
use Rattle.std.specs.Prelude.{◌≡◌, ℕ, Some, codes}
use Rattle.json.specs.Written.{Written}
use Rattle.serde_json.specs.Data.{Data, member, no_members}
use Rattle.serde_json.specs.Find.{get}
use Rattle.quorum_expr.specs.Common.{keys_up_to}
use Rattle.plan.specs.Puts.{Puts, Opens}

-- An object was begun with the keys k and of and their values.
pub record OpensThreshold (d : Data) (start now : Written) : Type 0 where
  pub k : Data
  pub of : Data
  pub opens : Opens (member (codes "k") k (member (codes "of") of no_members)) start now
  pub k_is : Some k ≡ get (codes "k") d
  pub of_is : Some of ≡ get (codes "of") d

-- An object with this many keys, of which k and of were written, was written to its end.
abbrev pub EndsThreshold : ℕ → Data → Written → Written → Type 0
EndsThreshold keys d old new = (start : Written) → OpensThreshold d start old → Some keys ≡ keys_up_to 4 d
    → Puts d start new
