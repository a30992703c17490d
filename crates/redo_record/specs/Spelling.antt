-- The canonical bytes of a record, and the decoding of bytes.
use Rattle.std.specs.Prelude.{ℕ, not, nat_lt, List, ◌∷◌, ◌++◌, length, drop, Result, Ok, if◌then◌else◌}
use Rattle.std.specs.Int.{w16, w32, w64, to_be_bytes}
use Rattle.volume_model.specs.Common.{Redo, refuse_if}
use Rattle.volume_model.specs.declared.fault.Fault.{Fault}
use Rattle.volume_model.specs.declared.fault.Fault.TheVariants.{Short, BadField, Trailing}
use Rattle.redo_record.specs.Head.{head_in, is_allowed, redo_from}

-- the fields of a record as big-endian numbers, each as wide as its type, and then the bytes that it writes
unfoldable pub spelled : Redo → List ℕ
spelled r =
    to_be_bytes w64 r.lsn ++ (to_be_bytes w32 r.volume ++ (to_be_bytes w64 r.prev_volume
    ++ (to_be_bytes w64 r.prev_group ++ (to_be_bytes w64 r.prev_block
    ++ (r.group ∷ (to_be_bytes w32 r.block
    ++ (to_be_bytes w16 r.offset ++ ((if r.point then 1 else 0) ∷ length r.bytes ∷ r.bytes))))))))

-- the record that the bytes encode, or the first fault: too few bytes for the fields, a field that isn't allowed, too
-- few bytes after them, too many bytes
unfoldable pub decoded : List ℕ → Result Redo Fault
decoded bytes =
    refuse_if (nat_lt (length bytes) 45) Short (
    refuse_if (not (is_allowed (head_in bytes))) BadField (
    refuse_if (nat_lt (length (drop 45 bytes)) (head_in bytes).length) Short (
    refuse_if (nat_lt (head_in bytes).length (length (drop 45 bytes))) Trailing (
    Ok (redo_from (head_in bytes) (drop 45 bytes))))))
