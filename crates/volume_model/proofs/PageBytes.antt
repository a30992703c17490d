-- Each byte of a page is that of the last record that writes it, and the records of each node come in order
use Rattle.std.proofs.Common.{◌≡◌, ℕ, ◌+◌, ◌-◌, ◌<◌, ◌≤◌, true, ◌&&◌, ◌==◌, nat_le, eqb, ◌⊎◌, List, [], ◌∷◌, length, get_or, replicate, if◌then◌else◌, refl, sym, ◌∙◌, subst, inl, inr, arith}
use Rattle.std.proofs.lemmas.Bool.{cases_Bool, cases_lt}
use Rattle.std.proofs.lemmas.List.{length-replicate, get_or-replicate}
use Rattle.volume_model.specs.Common.{IsIn, Redo, spelling, numbers_before, written, page_from, Plan, IsCertified, Event, ComeInOrder, NodesRecordsInOrder, LieWithin, Writes, IsLastToWrite, NoneWrites, IsByteOfLast, PagesByteByByte}
use Rattle.volume_model.proofs.Ordered.{in_order}
use Rattle.volume_model.proofs.Carried.{IsBare, ends_bare, end, kept}
use Rattle.std.proofs.lemmas.Grind.{common_steps}
use Rattle.std.proofs.Common.{rules}

-- ---- the order of a node's records

module _ (plan : Plan) (certified : IsCertified plan) (events : List Event) (group x : ℕ) where
  -- the records of the node
  abbrev held_records : List Redo
  held_records = ((end plan certified events).nodes group x).contents.records

  none_in_order : held_records ≡ [] → ComeInOrder held_records
  none_in_order e = subst ComeInOrder (sym e) tt

  node_in_order : ComeInOrder held_records
  node_in_order = grind (arith, common_steps, IsBare, end, ends_bare, cases_lt, cases_Bool, in_order, held_records, kept, none_in_order, (IsBare plan group ((end plan certified events).nodes group x)), (end plan certified events), (ends_bare plan events group x), (cases_lt group plan.groups), (kept plan certified events))

pub nodes_records_in_order : NodesRecordsInOrder
nodes_records_in_order plan certified events group x = node_in_order plan certified events group x

-- ---- one write

-- ---- all writes

-- the byte is that of the last record that writes it, and that of the page where none does
abbrev IsByteOver : List ℕ → List Redo → ℕ → ℕ → ℕ → ℕ → Type 0
IsByteOver page records block point k byte =
    ((r : Redo) × IsLastToWrite records block point k r × (byte ≡ get_or r.bytes (k - r.offset) 0)) ⊎ (NoneWrites records block point k × (byte ≡ get_or page k 0))

module _ (block point : ℕ) where
  -- the page once this record is written
  abbrev over : Redo → List ℕ → List ℕ
  over r page = if r.block == block && nat_le r.lsn point then written r page else page

  length-over : (r : Redo) (page : List ℕ) → length page ≡ 512 → r.offset + length r.bytes ≤ 512 → length (over r page) ≡ 512
  length-over r page long within = grind (arith, common_steps)

  length-from : (page : List ℕ) (records : List Redo) → length page ≡ 512 → LieWithin records → length (page_from page block point records) ≡ 512
  length-from page [] long within = long
  length-from page (r ∷ rest) long within = length-from (over r page) rest (length-over r page long (within r (inl refl))) (λ s i. within s (inr i))

  -- the record writes the byte, and so it is the record's, or doesn't, and so it stays
  over-byte : (r : Redo) (page : List ℕ) (k : ℕ) → length page ≡ 512 → r.offset + length r.bytes ≤ 512 → (Writes block point k r × (get_or (over r page) k 0 ≡ get_or r.bytes (k - r.offset) 0)) ⊎ ((Writes block point k r → ⊥) × (get_or (over r page) k 0 ≡ get_or page k 0))
  over-byte r page k long within = grind (arith, common_steps, (cases_Bool (eqb r.block block && nat_le r.lsn point)), (cases_lt k r.offset), (cases_lt k (r.offset + length r.bytes)))

  -- a record before the others is the last one that writes where none of them does, and else the same one is
  over-last : (r : Redo) (page : List ℕ) (rest : List Redo) (k byte : ℕ) → length page ≡ 512 → r.offset + length r.bytes ≤ 512 → ((s : Redo) → IsIn s rest → numbers_before (spelling r) (spelling s) ≡ true) → IsByteOver (over r page) rest block point k byte → IsByteOver page (r ∷ rest) block point k byte
  over-last r page rest k byte long within before (inl later) = search (rules)
  over-last r page rest k byte long within before (inr none) = grind (arith, common_steps, (over-byte r page k long within))

  from-bytes : (page : List ℕ) (records : List Redo) (k : ℕ) → length page ≡ 512 → ComeInOrder records → LieWithin records → IsByteOver page records block point k (get_or (page_from page block point records) k 0)
  from-bytes page [] k long order within = inr ((λ r i w. i), refl)
  from-bytes page (r ∷ rest) k long order within =
      over-last r page rest k (get_or (page_from (over r page) block point rest) k 0) long (within r (inl refl)) order.0
      (from-bytes (over r page) rest k (length-over r page long (within r (inl refl))) order.1 (λ s i. within s (inr i)))

zeros_long : length (replicate {A = ℕ} 512 0) ≡ 512
zeros_long = length-replicate {A = ℕ} 512 0

-- over zeros
over_zeros : (records : List Redo) (block point k byte : ℕ) → k < 512 → IsByteOver (replicate 512 0) records block point k byte → IsByteOfLast records block point k byte
over_zeros records block point k byte low (inl last) = inl last
over_zeros records block point k byte low (inr none) = inr (none.0, none.1 ∙ get_or-replicate 512 k 0 0 low)

pub pages_byte_by_byte : PagesByteByByte
pages_byte_by_byte = search (rules, length-from, zeros_long, over_zeros, from-bytes)
