-- Pages with all records of a block applied
use Rattle.std.proofs.Common.{◌≡◌, ℕ, suc, ◌≤◌, ◌-◌, ◌==◌, ◌&&◌, nat_le, true, if◌then◌else◌, List, [], ◌∷◌, ◌++◌, length, get_or, replicate, Option, Some, None, refl, sym, ap, ◌∙◌, subst, inl, inr, arith}
use Rattle.std.proofs.lemmas.Bool.{cases_lt, eq-eqb, le-leb}
use Rattle.std.proofs.lemmas.Option.{get_or_from_slice_get}
use Rattle.std.specs.Global.{Box}
use Rattle.std.specs.List.{All, slice_get}
use Rattle.volume_model.specs.Common.{Redo, spelling, numbers_before, with_record, page_from, page_of, written}
use Rattle.redo_record.specs.Common.{ComesAfter, IsInOrder}
use Rattle.redo_record.proofs.Finding.{lsn-rises}
use Rattle.redo_record.proofs.Merging.{merged-after}
use Rattle.redo_record.proofs.Places.{before_from, with_record-after}
use Rattle.redo_record.proofs.Rows.{row-in_order}
use Rattle.segment_core.specs.Applied.{applied, IsPageOf}

-- a page up to a number that no record of the block is above
pub page-all : (page : List ℕ) (block point : ℕ) (records : List Redo) → All (λ r. r.block ≡ block) records → All (λ r. r.lsn ≤ point) records → page_from page block point records ≡ applied records page
page-all page block point [] own low = refl
page-all page block point (r ∷ rest) own low =
    let mine : (r.block == block) ≡ true = eq-eqb r.block block (own 0 r (omega arith)) in
    let within : nat_le r.lsn point ≡ true = le-leb r.lsn point (low 0 r (omega arith)) in
    let writes : (if r.block == block && nat_le r.lsn point then written r page else page) ≡ written r page = rw (mine, within) refl in
    ap (λ (p : List ℕ). page_from p block point rest) writes
    ∙ page-all (written r page) block point rest (λ k d l. own (suc k) d (omega arith)) (λ k d l. low (suc k) d (omega arith))

-- with a record more at the end
pub applied-more : (r : Redo) (records : List Redo) (page : List ℕ) → applied (records ++ r ∷ []) page ≡ written r (applied records page)
applied-more r [] page = refl
applied-more r (s ∷ rest) page = applied-more r rest (written s page)

-- no record is above the last one
pub last-greatest : (records : List Redo) (last : Redo) (point : ℕ) → IsInOrder records → Some last ≡ slice_get records (length records - 1) → last.lsn ≤ point → All (λ r. r.lsn ≤ point) records
last-greatest records last point order is low k d l =
    let at : get_or records (length records - 1) d ≡ last = get_or_from_slice_get records (length records - 1) last d (sym is) in
    elim (cases_lt k (length records - 1)) [
      | inl m ↦ (
          let rises : (get_or records k d).lsn ≤ (get_or records (length records - 1) d).lsn = lsn-rises (get_or records k d) (get_or records (length records - 1) d) (order k (length records - 1) d m (omega arith)) in
          let same : (get_or records (length records - 1) d).lsn ≡ last.lsn = ap (λ (r : Redo). r.lsn) at in
          omega arith)
      | inr m ↦ (
          let same : k ≡ length records - 1 = omega arith in
          let here : (get_or records k d).lsn ≡ last.lsn = ap (λ n. (get_or records n d).lsn) same ∙ ap (λ (r : Redo). r.lsn) at in
          omega arith)
    ]

-- a record that comes after the last one comes after all
pub after-last : (records : List Redo) (last r : Redo) → IsInOrder records → Some last ≡ slice_get records (length records - 1) → numbers_before (spelling last) (spelling r) ≡ true → ComesAfter records r
after-last records last r order is before =
    let single : IsInOrder (r ∷ []) = λ i j d l k. absurd (omega arith) in
    merged-after records [] (records ++ r ∷ []) r (row-in_order records (r ∷ []) last r order single is refl (before_from last r before)) refl

-- a record comes after none
pub after-none : (records : List Redo) (r : Redo) → records ≡ [] → ComesAfter records r
after-none records r none = subst (λ (rs : List Redo). ComesAfter rs r) (sym none) (λ s i. absurd i)

-- the bytes of a page that is kept
abbrev bytes_in : Option (Box (List ℕ)) → List ℕ
bytes_in None = []
bytes_in (Some page) = page.value

-- no page is kept
pub page-none : (records : List Redo) (latest : Option (Box (List ℕ))) → latest ≡ None → IsPageOf records latest
page-none records latest none page is = (let same : None ≡ Some page = sym none ∙ is in absurd cc)

-- a page is kept that all records were applied to
pub page-kept : (records : List Redo) (block point : ℕ) (kept : Box (List ℕ)) → kept.value ≡ page_of records block point → All (λ r. r.block ≡ block) records → All (λ r. r.lsn ≤ point) records → IsPageOf records (Some kept)
page-kept records block point kept is own low page same = sym (ap bytes_in same) ∙ is ∙ page-all (replicate 512 0) block point records own low

-- a record more is applied to the page
pub page-more : (records more : List Redo) (r : Redo) (kept now : Box (List ℕ)) → kept.value ≡ applied records (replicate 512 0) → now.value ≡ written r kept.value → ComesAfter records r → more ≡ with_record r records → IsPageOf more (Some now)
page-more records more r kept now all writes after is page same =
    sym (ap bytes_in same)
    ∙ writes
    ∙ ap (written r) all
    ∙ sym (applied-more r records (replicate 512 0))
    ∙ ap (λ (rs : List Redo). applied rs (replicate 512 0)) (sym (is ∙ with_record-after r records after))
