-- Sets that are one chain, and their last consistency point.
use Rattle.std.proofs.Common.{◌≡◌, ℕ, zero, suc, ◌+◌, ◌-◌, ◌<◌, ◌≤◌, Bool, true, false, ◌&&◌, nat_eq, List, [], ◌∷◌, ◌++◌, length, length-append, get_or, take, drop, map, Some, is_some, if◌then◌else◌, append-nil, refl, sym, ap, ◌∙◌, subst, inl, inr, arith}
use Rattle.std.proofs.lemmas.Bool.{and_parts, eq-eqb}
use Rattle.std.proofs.lemmas.List.{take_more, take-append-le, take-append-drop, get_or-map, length-map}
use Rattle.volume_model.specs.Common.{added, Redo, last_lsn, record_at, chain_from, chain_or_none, cut_of, log_found}
use Rattle.redo_record.specs.declared.record_set.RecordSet.{RecordSet}
use Rattle.redo_record.specs.declared.run.Run.{Run}
use Rattle.redo_record.specs.declared.shared_record.SharedRecord.{SharedRecord}
use Rattle.redo_record.specs.Common.{shared_redo, joined, records_of, run_records, runs_in, IsVolumeChain}
use Rattle.redo_record.proofs.RunLists.{joined-append}
use Rattle.writer_core.specs.Logs.{log_of_set, is_growing}
use Rattle.writer_core.proofs.Joined.{growing-same}
use Rattle.recovery.specs.Chains.{is_chain_to, leads, up_to_point, GoesOn, IsChainTo}
use Rattle.recovery.proofs.Links.{IsBack, leads-is, cut-next}
use Rattle.recovery.proofs.Cuts.{set-back, more-grows}
use Rattle.recovery.proofs.Leaves.{cut-same, log-same}
use Rattle.recovery.proofs.Sharing.{added-append, added-more, chain-is, chain-last, chain-more, front-chain}

-- ---- runs that are chains

linked-later : (r : Redo) (records : List Redo) → IsVolumeChain (r ∷ records) → IsVolumeChain records
linked-later r records linked i d l =
    let next : suc i + 1 ≡ suc (i + 1) = omega arith in
    ap (λ n. (get_or (r ∷ records) n d).prev_volume) (sym next) ∙ linked (suc i) d (omega arith)

-- linked records go on from a chain to which the first one links
linked-goes_on : (records : List Redo) (d e : Redo) (last end : ℕ) → 0 < length records → (get_or records 0 d).prev_volume ≡ last → (get_or records (length records - 1) e).lsn ≡ end → IsVolumeChain records → GoesOn last records end
linked-goes_on [] d e last end some prev at linked older h = absurd (omega arith)
linked-goes_on (r ∷ []) d e last end some prev at linked older h = chain-more last end r older (r ∷ older) refl prev (sym at) h
linked-goes_on (r ∷ s ∷ rest) d e last end some prev at linked older h =
    let n : length (r ∷ s ∷ rest) - 1 ≡ suc (length (s ∷ rest) - 1) = omega arith in
    let on : GoesOn r.lsn (s ∷ rest) end =
    linked-goes_on (s ∷ rest) d e r.lsn end (omega arith) (linked 0 d (omega arith)) (ap (λ k. (get_or (r ∷ s ∷ rest) k e).lsn) (sym n) ∙ at) (linked-later r (s ∷ rest) linked) in
    on (r ∷ older) (chain-more last r.lsn r older (r ∷ older) refl prev refl h)

-- so do those of packets
pub packets-go_on : (packets : List SharedRecord) (records : List Redo) (first end : SharedRecord) (last : ℕ) → map shared_redo packets ≡ records → 0 < length packets → first ≡ get_or packets 0 first → end ≡ get_or packets (length packets - 1) end
    → (shared_redo first).prev_volume ≡ last → IsVolumeChain records → GoesOn last records (shared_redo end).lsn
packets-go_on packets records first end last shown some is_first is_end prev linked =
    let many : length (map shared_redo packets) ≡ length packets = length-map packets shared_redo in
    let one : get_or (map shared_redo packets) 0 (shared_redo first) ≡ shared_redo first = get_or-map shared_redo packets 0 first (shared_redo first) some ∙ ap shared_redo (sym is_first) in
    let other : get_or (map shared_redo packets) (length packets - 1) (shared_redo end) ≡ shared_redo end = get_or-map shared_redo packets (length packets - 1) end (shared_redo end) (omega arith) ∙ ap shared_redo (sym is_end) in
    subst (λ rs. GoesOn last rs (shared_redo end).lsn) shown
    (linked-goes_on (map shared_redo packets) (shared_redo first) (shared_redo end) last (shared_redo end).lsn (omega (arith, many)) (ap (λ (r : Redo). r.prev_volume) one ∙ prev)
    (ap (λ n. (get_or (map shared_redo packets) (n - 1) (shared_redo end)).lsn) many ∙ ap (λ (r : Redo). r.lsn) other) (subst IsVolumeChain (sym shown) linked))

-- the runs up to one of them, and it
pub runs-more : (runs : List Run) (i : ℕ) (run : Run) → i < length runs → run ≡ get_or runs i run → joined (runs_in (take (i + 1) runs)) ≡ joined (runs_in (take i runs)) ++ run_records run
runs-more runs i run within is =
    ap (λ rs. joined (runs_in rs)) (take_more runs i run within ∙ ap (λ (r : Run). take i runs ++ r ∷ []) (sym is))
    ∙ joined-append (take i runs) (run ∷ [])
    ∙ ap (λ rs. joined (runs_in (take i runs)) ++ rs) (append-nil (run_records run))

-- and those behind
pub runs-apart : (runs : List Run) (i : ℕ) → joined (runs_in runs) ≡ joined (runs_in (take i runs)) ++ joined (runs_in (drop i runs))
runs-apart runs i = ap (λ rs. joined (runs_in rs)) (sym (take-append-drop i runs)) ∙ joined-append (take i runs) (drop i runs)

-- ---- the last consistency point

pub point-here : (r : Redo) (older : List Redo) → r.point ≡ true → up_to_point (r ∷ older) ≡ r ∷ older
point-here r older e = ap (λ b. if b then r ∷ older else up_to_point older) e

pub point-before : (r : Redo) (older : List Redo) → r.point ≡ false → up_to_point (r ∷ older) ≡ up_to_point older
point-before r older e = ap (λ b. if b then r ∷ older else up_to_point older) e

-- the last of the first records
pub last-taken : (packets : List SharedRecord) (count : ℕ) (p : SharedRecord) → 0 < count → count ≤ length packets → p ≡ get_or packets (count - 1) p → (older : List Redo)
    → added (take count (map shared_redo packets)) older ≡ shared_redo p ∷ added (take (count - 1) (map shared_redo packets)) older
last-taken packets count p some within is older =
    let records : List Redo = map shared_redo packets in
    let k : ℕ = count - 1 in
    let next : count ≡ k + 1 = omega arith in
    let inside : k < length packets = omega arith in
    let here : get_or records k (shared_redo p) ≡ shared_redo p = get_or-map shared_redo packets k p (shared_redo p) inside ∙ ap shared_redo (sym is) in
    ap (λ n. added (take n records) older) next
    ∙ ap (λ (rs : List Redo). added rs older) (take_more records k (shared_redo p) (omega (arith, length-map packets shared_redo)) ∙ ap (λ s. take k records ++ s ∷ []) here)
    ∙ added-more (take k records) (shared_redo p) older

-- records in three parts, of which the first and a part of the second are taken
front-of : (xs ys zs : List Redo) (n len : ℕ) → n ≡ length xs + len → len ≤ length ys → take n ((xs ++ ys) ++ zs) ≡ xs ++ take len ys
front-of [] ys zs n len e within =
    let same : n ≡ len = omega (arith, e) in
    ap (λ k. take k (ys ++ zs)) same ∙ take-append-le len ys zs within
front-of (x ∷ xs) ys zs zero len e within = absurd (omega arith)
front-of (x ∷ xs) ys zs (suc n) len e within = ap (λ (rs : List Redo). x ∷ rs) (front-of xs ys zs n len (omega arith) within)

nothing-taken : (records older : List Redo) → added (take 0 records) older ≡ older
nothing-taken [] older = refl
nothing-taken (r ∷ records) older = refl

-- The point is sought in a run, and neither in those behind it nor yet in those before it.
module _ (runs : List Run) (all : List Redo) (place i count : ℕ) (run : Run) (read : List SharedRecord) (listed : joined (runs_in runs) ≡ all) (next : place ≡ i + 1) (within : i < length runs) (is : run ≡ get_or runs i run) (shown : map shared_redo read ≡ run_records run)
    (counted : count ≡ length (joined (runs_in (take place runs)))) (same : up_to_point (added all []) ≡ up_to_point (added (joined (runs_in (take place runs))) [])) where
  abbrev before : List Redo
  before = joined (runs_in (take i runs))

  abbrev own : List Redo
  own = map shared_redo read

  abbrev behind : List Redo
  behind = joined (runs_in (drop place runs))

  front : joined (runs_in (take place runs)) ≡ before ++ own
  front = ap (λ n. joined (runs_in (take n runs))) next ∙ runs-more runs i run within is ∙ ap (λ rs. before ++ rs) (sym shown)

  whole : all ≡ (before ++ own) ++ behind
  whole = sym listed ∙ runs-apart runs place ∙ ap (λ rs. rs ++ behind) front

  pub before-counted : count - length read ≡ length before
  before-counted = omega (arith, counted, ap length front, length-append before own, length-map read shared_redo)

  pub point-within : (len : ℕ) → len ≤ length read → count - length read + len ≤ length all
  point-within len few = omega (arith, before-counted, few, ap length whole, length-append (before ++ own) behind, length-append before own, length-map read shared_redo)

  -- it is there
  pub point-found : (len : ℕ) → len ≤ length read → ((older : List Redo) → up_to_point (added own older) ≡ up_to_point (added (take len own) older)) → ((older : List Redo) → up_to_point (added (take len own) older) ≡ added (take len own) older)
      → (added (take (count - length read + len) all) [] ≡ added (take len own) (added before [])) × (up_to_point (added all []) ≡ added (take len own) (added before []))
  point-found len few last here =
      let taken : take (count - length read + len) all ≡ before ++ take len own =
      ap (take (count - length read + len)) whole ∙ front-of before own behind (count - length read + len) len (omega (arith, before-counted)) (omega (arith, few, length-map read shared_redo)) in (
        ap (λ (rs : List Redo). added rs []) taken ∙ added-append before (take len own) [],
        same ∙ ap (λ (rs : List Redo). up_to_point (added rs [])) front ∙ ap up_to_point (added-append before own []) ∙ last (added before []) ∙ here (added before []),
      )

  -- it isn't
  pub point-earlier : (len : ℕ) → len ≡ 0 → ((older : List Redo) → up_to_point (added own older) ≡ up_to_point (added (take len own) older)) → up_to_point (added all []) ≡ up_to_point (added before [])
  point-earlier len none last =
      same ∙ ap (λ (rs : List Redo). up_to_point (added rs [])) front ∙ ap up_to_point (added-append before own []) ∙ last (added before [])
      ∙ ap (λ k. up_to_point (added (take k own) (added before []))) none ∙ ap up_to_point (nothing-taken own (added before []))

-- ---- the cut of a chain

-- a chain grows
chain-grown : (log : List Redo) (n : ℕ) → IsBack log → is_chain_to n log ≡ true → is_growing log ≡ true
chain-grown [] n back h = refl
chain-grown (r ∷ older) n back h =
    let parts : (nat_eq r.lsn n ≡ true) × (is_chain_to r.prev_volume older ≡ true) = and_parts _ _ h in
    let last : last_lsn older ≡ r.prev_volume = chain-last older r.prev_volume parts.1 in
    let below : r.prev_volume < r.lsn = back r (inl refl) in
    more-grows r older (chain-grown older r.prev_volume (λ s i. back s (inr i)) parts.1) (omega (arith, last, below))

-- its cut is its last consistency point
chain-cut : (log : List Redo) (n : ℕ) → IsBack log → is_chain_to n log ≡ true → cut_of log ≡ last_lsn (up_to_point log)
chain-cut [] n back h = refl
chain-cut (r ∷ older) n back h =
    let parts : (nat_eq r.lsn n ≡ true) × (is_chain_to r.prev_volume older ≡ true) = and_parts _ _ h in
    let reached : leads older r.prev_volume ≡ true = sym (leads-is older r.prev_volume) ∙ ap is_some (chain-is older r.prev_volume parts.1) in
    cut-next r older (chain-grown (r ∷ older) n back h) back
    ∙ ap (λ b. if b && r.point then r.lsn else cut_of older) reached
    ∙ pick r.point (chain-cut older r.prev_volume (λ s i. back s (inr i)) parts.1)
  where
    pick : (b : Bool) → cut_of older ≡ last_lsn (up_to_point older) → (if b then r.lsn else cut_of older) ≡ last_lsn (if b then r ∷ older else up_to_point older)
    pick true e = refl
    pick false e = e

-- and up to there it is a chain
chain-up_to : (log : List Redo) (n : ℕ) → is_chain_to n log ≡ true → is_chain_to (last_lsn (up_to_point log)) (up_to_point log) ≡ true
chain-up_to [] n h = refl
chain-up_to (r ∷ older) n h =
    let parts : (nat_eq r.lsn n ≡ true) × (is_chain_to r.prev_volume older ≡ true) = and_parts _ _ h in
    pick r.point (ap (λ b. b && is_chain_to r.prev_volume older) (eq-eqb r.lsn r.lsn refl) ∙ parts.1) (chain-up_to older r.prev_volume parts.1)
  where
    pick : (b : Bool) → is_chain_to r.lsn (r ∷ older) ≡ true → is_chain_to (last_lsn (up_to_point older)) (up_to_point older) ≡ true
        → is_chain_to (last_lsn (if b then r ∷ older else up_to_point older)) (if b then r ∷ older else up_to_point older) ≡ true
    pick true e f = e
    pick false e f = f

module _ (set : RecordSet) (chains : IsChainTo (last_lsn (log_of_set set)) (log_of_set set)) where
  pub one_chain-grows : is_growing (log_of_set set) ≡ true
  one_chain-grows = chain-grown (log_of_set set) (last_lsn (log_of_set set)) (set-back set) chains

  same : (n : ℕ) → record_at (log_of_set set) n ≡ record_at (records_of set) n
  same n = growing-same (records_of set) one_chain-grows n

  cut-log : cut_of (log_of_set set) ≡ last_lsn (up_to_point (log_of_set set))
  cut-log = chain-cut (log_of_set set) (last_lsn (log_of_set set)) (set-back set) chains

  -- the cut of a set that is one chain
  pub one_chain-cut : last_lsn (up_to_point (log_of_set set)) ≡ cut_of (records_of set)
  one_chain-cut = sym cut-log ∙ cut-same (log_of_set set) (records_of set) same

  -- its log
  pub one_chain-log : (kept : RecordSet) (len : ℕ) → added (take len (records_of set)) [] ≡ up_to_point (log_of_set set) → records_of kept ≡ take len (records_of set) → log_of_set kept ≡ log_found (records_of set)
  one_chain-log kept len point is =
      let log : List Redo = log_of_set set in
      let n : ℕ = last_lsn (up_to_point log) in
      let up : is_chain_to n (added (take len (records_of set)) []) ≡ true = ap (is_chain_to n) point ∙ chain-up_to log (last_lsn log) chains in
      let there : chain_from n log n ≡ Some (added (take len (records_of set)) []) = front-chain (records_of set) len n one_chain-grows (set-back set) up in
      ap (λ (rs : List Redo). added rs []) is ∙ sym (ap chain_or_none there) ∙ ap (λ k. chain_or_none (chain_from k log k)) (sym cut-log) ∙ log-same log (records_of set) same
