-- The bytes of snapshots.
use Rattle.std.specs.Prelude.{ℕ, Bool, true, false, not, ◌==◌, nat_lt, List, [], ◌∷◌, ◌++◌, None, Result, Ok}
use Rattle.std.specs.Int.{w32, w64, to_be_bytes}
use Rattle.volume_model.specs.Common.{◌>>=◌, refuse_if, Authority}
use Rattle.volume_model.specs.Node.{Node}
use Rattle.volume_model.specs.declared.fault.Fault.{Fault}
use Rattle.volume_model.specs.declared.fault.Fault.TheVariants.{BadField}
use Rattle.message_bytes.specs.Numbers.{byte_at, number_at}
use Rattle.message_bytes.specs.Contents.{Read, contents_at}
use Rattle.message_bytes.specs.Reading.{place_at, ended}
use Rattle.message_bytes.specs.Spelling.{place_spelled, contents_spelled}

-- the bytes begin with version 1 and this kind
unfoldable pub head_at : ℕ → List ℕ → Read ℕ
head_at wanted bytes = do
  version ← byte_at bytes
  kind ← byte_at version.1
  refuse_if (not (version.0 == 1)) BadField (refuse_if (not (kind.0 == wanted)) BadField (Ok (kind.0, kind.1)))

-- a truth value, as 0 or 1
unfoldable pub flag_at : List ℕ → Read Bool
flag_at bytes = do
  b ← byte_at bytes
  refuse_if (nat_lt 1 b.0) BadField (Ok (b.0 == 1, b.1))

abbrev pub flag_spelled : Bool → ℕ
flag_spelled true = 1
flag_spelled false = 0

-- the node that a snapshot's bytes encode, or the first fault
unfoldable pub segment_in : List ℕ → Result Node Fault
segment_in bytes = do
  head ← head_at 129 bytes
  volume ← number_at w32 head.1
  place ← place_at volume.1
  whole ← flag_at place.1
  copied ← number_at w64 whole.1
  c ← contents_at copied.1
  ended (
    record {
      volume = volume.0;
      place = place.0;
      whole = whole.0;
      contents = c.0;
      copies = [];
      install = None;
      copied = copied.0;
    },
    c.1,
  )

-- the bytes of a node's snapshot
abbrev pub segment_spelled : Node → List ℕ
segment_spelled n = (1 ∷ 129 ∷ [])
    ++ (to_be_bytes w32 n.volume
    ++ (place_spelled n.place ++ (flag_spelled n.whole ∷ (to_be_bytes w64 n.copied ++ contents_spelled n.contents))))

-- the authority that a snapshot's bytes encode, or the first fault
unfoldable pub authority_in : List ℕ → Result Authority Fault
authority_in bytes = do
  head ← head_at 130 bytes
  volume ← number_at w32 head.1
  Ok (record { last_volume = volume.0; configurations = volume.1 })

-- the bytes of an authority's snapshot
abbrev pub authority_spelled : Authority → List ℕ
authority_spelled a = (1 ∷ 130 ∷ []) ++ (to_be_bytes w32 a.last_volume ++ a.configurations)
