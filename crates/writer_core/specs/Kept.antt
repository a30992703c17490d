-- LSNs by block and group.
use Rattle.std.specs.Prelude.{◌≡◌, ℕ, ◌&&◌, ◌==◌, nat_eq, if◌then◌else◌, unwrap_or, Option, Some, None}
use Rattle.std.specs.declared.cmp.Ordering.{Ordering}
use Rattle.std.specs.Ordering.{nat_cmp, ordering_then}
use Rattle.std.specs.BTreeMap.{BTreeMap, get}

-- an LSN for each block and group
abbrev pub Tree : Type 0
Tree = BTreeMap (ℕ × ℕ) ℕ

-- the order of the keys: by block, then by group
abbrev pub block_cmp : ℕ × ℕ → ℕ × ℕ → Ordering
block_cmp a b = ordering_then (nat_cmp a.0 b.0) (nat_cmp a.1 b.1)

-- the LSN of a block of a group, 0 if there is none
abbrev pub lsn_in : Tree → ℕ → ℕ → ℕ
lsn_in tree group block = unwrap_or (get block_cmp tree (block, group)) 0

-- the same in a tree that may be missing
abbrev pub lsn_under : Option Tree → ℕ → ℕ → ℕ
lsn_under None group block = 0
lsn_under (Some tree) group block = lsn_in tree group block

-- the LSN of one block is set, and those of all others are unchanged
abbrev pub PutsIn : (ℕ → ℕ → ℕ) → ℕ → ℕ → ℕ → (ℕ → ℕ → ℕ) → Type 0
PutsIn old group block lsn new = (q b : ℕ) → new q b ≡ (if nat_eq group q && nat_eq block b then lsn else old q b)

-- the LSN that is known, or else another one
abbrev pub first_known : ℕ → ℕ → ℕ
first_known known lsn = if known == 0 then lsn else known

-- the LSN of one block is set if it had none, and those of all others are unchanged
abbrev pub KeepsIn : (ℕ → ℕ → ℕ) → ℕ → ℕ → ℕ → (ℕ → ℕ → ℕ) → Type 0
KeepsIn old group block lsn new = PutsIn old group block (first_known (old group block) lsn) new
