use Rattle.std.specs.Prelude.{ℕ, ◌≤◌, List, take}
use Rattle.redo_record.specs.declared.payload.Payload.{Payload}

-- a record may write this many bytes: 1 to 64
pub record HasRoom (count : ℕ) : Type 0 where
  pub not_empty : 1 ≤ count
  pub not_more : count ≤ 64

-- the bytes of a payload
abbrev pub payload_bytes : Payload → List ℕ
payload_bytes payload = take payload.length payload.place
