-- Which certificates are kept if they are too long together.
use Rattle.std.specs.Prelude.{◌≡◌, ℕ, ◌+◌, ◌==◌, nat_lt, nat_le, ◌&&◌, ◌||◌, Bool, if◌then◌else◌, List, [], ◌∷◌, length, map, Option, Some, None, slice_get}
use Rattle.refutation.specs.Common.{Rule}
use Rattle.cert_search.specs.Lengths.{length_in}

-- whether a certificate of this length at place k comes no later than one of the other length at place i: shorter ones
-- come first, equally long ones in order of their places
abbrev pub comes_first : ℕ → ℕ → ℕ → ℕ → Bool
comes_first long k other i = nat_lt long other || (long == other && nat_le k i)

-- the length of a certificate if it comes no later than the other one, else 0
abbrev pub length_before : ℕ → ℕ → ℕ → ℕ → ℕ
length_before long k other i = if comes_first long k other i then long else 0

-- the total length of the certificates that come no later than one of this length at place i; the list begins with
-- place k
abbrev pub length_up_to : ℕ → ℕ → ℕ → List ℕ → ℕ
length_up_to other i k [] = 0
length_up_to other i k (long ∷ rest) = length_before long k other i + length_up_to other i (k + 1) rest

-- a certificate is kept if it and those that come before it fit into the room
abbrev pub kept_at : ℕ → List ℕ → ℕ → Option Rule → Option Rule
kept_at room lengths i rule = if nat_le (length_up_to (length_in rule) i 0 lengths) room then rule else None

-- of the certificates found, the shortest are kept, as many as fit into the room
pub record AreKept (room : ℕ) (found kept : List (Option Rule)) : Type 0 where
  pub as_many : length kept ≡ length found
  pub each : (i : ℕ) (rule left : Option Rule) → slice_get found i ≡ Some rule → slice_get kept i ≡ Some left → left
      ≡ kept_at room (map length_in found) i rule
