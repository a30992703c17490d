-- Packets with which the first records of a list end.
use Rattle.std.specs.Prelude.{◌≡◌, ℕ, ◌≤◌, List, ◌++◌, ◌-◌, length, map, take}
use Rattle.volume_model.specs.Common.{Redo}
use Rattle.redo_record.specs.declared.shared_record.SharedRecord.{SharedRecord}
use Rattle.redo_record.specs.Common.{shared_redo}

-- the first n of these records end with these packets
abbrev pub EndsWith : List SharedRecord → ℕ → List Redo → Type 0
EndsWith packets n records = (length packets ≤ n)
    × (take n records ≡ take (n - length packets) records ++ map shared_redo packets)
