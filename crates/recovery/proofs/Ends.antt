-- Where a chain ends.
use Rattle.std.proofs.Common.{◌≡◌, ℕ, ◌<◌, true, ◌&&◌, nat_eq, List, [], ◌∷◌, ◌++◌, Option, Some, None, option_map, is_some, map, refl, sym, ap, ap₂, ◌∙◌, inl, inr, arith, append-nil, append_assoc, reverse}
use Rattle.std.proofs.lemmas.List.{map-append, reverse-append}
use Rattle.std.proofs.lemmas.Bool.{cases_Bool, eqb-true, eqb-false, true≢false, lt-ltb}
use Rattle.volume_model.specs.Common.{Redo, record_at, follow, chain_from, last_lsn}
use Rattle.redo_record.specs.declared.shared_record.SharedRecord.{SharedRecord}
use Rattle.redo_record.specs.Common.{shared_redo}
use Rattle.writer_core.specs.Logs.{log_of, is_growing}
use Rattle.writer_core.proofs.Logs.{log_of-push}
use Rattle.writer_core.proofs.Growing.{both}
use Rattle.recovery.proofs.Links.{IsBack, chain, chain-unfolds, chain-zero, chain_from-is}
use Rattle.volume_model.proofs.Chains.{record_at-some}

-- what was read of a chain, and what is left of it
abbrev pub then_chain : List Redo → Option (List Redo) → Option (List Redo)
then_chain read rest = option_map (λ older. read ++ older) rest

pub then_nil : (rest : Option (List Redo)) → then_chain [] rest ≡ rest
then_nil None = refl
then_nil (Some older) = refl

then_more : (read : List Redo) (r : Redo) (rest : Option (List Redo)) → then_chain read (option_map (λ older. r ∷ older) rest) ≡ then_chain (read ++ r ∷ []) rest
then_more read r None = refl
then_more read r (Some older) = ap Some (sym (append_assoc read (r ∷ []) older))

module _ (log : List Redo) (grows : is_growing log ≡ true) (back : IsBack log) (read : List Redo) (n next : ℕ) where
  -- one more record of a chain is read
  pub chain-read : (r : Redo) → record_at log next ≡ Some r → chain log n ≡ then_chain read (chain log next) → chain log n ≡ then_chain (read ++ r ∷ []) (chain log r.prev_volume)
  chain-read r found is =
      let (i, at) = record_at-some log next r found in
      let below : r.prev_volume < r.lsn = back r i in
      let on : chain log next ≡ option_map (λ older. r ∷ older) (chain log r.prev_volume) =
      chain-unfolds log grows back next (λ e. omega (arith, at, below, e)) ∙ ap (λ o. follow o (λ s. chain log s.prev_volume)) found in
      is ∙ ap (then_chain read) on ∙ then_more read r (chain log r.prev_volume)

  -- none is left where there is a chain
  pub chain-ends : record_at log next ≡ None → is_some (chain_from n log n) ≡ true → chain log n ≡ then_chain read (chain log next) → chain_from n log n ≡ Some read
  chain-ends none there is =
      let same : chain_from n log n ≡ chain log n = chain_from-is log grows back n n (omega arith) in
      elim (cases_Bool (nat_eq next 0)) [
        | inl e ↦ same ∙ is ∙ ap (λ m. then_chain read (chain log m)) (eqb-true next 0 e) ∙ ap (then_chain read) (chain-zero log grows) ∙ ap Some (append-nil read)
        | inr e ↦ (
            let gone : chain log next ≡ None = chain-unfolds log grows back next (eqb-false next 0 e) ∙ ap (λ o. follow o (λ s. chain log s.prev_volume)) none in
            absurd (true≢false (sym there ∙ ap is_some (same ∙ is ∙ ap (then_chain read) gone))))
      ]

-- the clone of a record is pushed
pub one-pushed : (read now : List SharedRecord) (p : SharedRecord) (r : Redo) → now ≡ read ++ p ∷ [] → shared_redo p ≡ r → map shared_redo now ≡ map shared_redo read ++ r ∷ []
one-pushed read now p r is same = ap (λ (ps : List SharedRecord). map shared_redo ps) is ∙ map-append shared_redo read (p ∷ []) ∙ ap (λ s. map shared_redo read ++ s ∷ []) same

pub log_of-reverse : (records : List SharedRecord) → log_of (reverse records) ≡ map shared_redo records
log_of-reverse [] = refl
log_of-reverse (r ∷ rest) = ap log_of (reverse-append (r ∷ []) rest) ∙ log_of-push (reverse rest) r ∙ ap (λ l. shared_redo r ∷ l) (log_of-reverse rest)

-- a chain grows, and its newest record has the number
pub chain-grows : (log : List Redo) → is_growing log ≡ true → IsBack log → (n : ℕ) (c : List Redo) → chain log n ≡ Some c → (is_growing c ≡ true) × (last_lsn c ≡ n)
chain-grows [] g back n c h =
    elim (cases_Bool (nat_eq n 0)) [
      | inl e ↦ (let q : Some [] ≡ Some c = rw e at h in let p : [] ≡ c = cc in (ap is_growing (sym p), ap last_lsn (sym p) ∙ sym (eqb-true n 0 e)))
      | inr e ↦ (let q : None ≡ Some c = rw e at h in cc)
    ]
chain-grows (r ∷ older) g back n c h =
    let (below, rest) = both (last_lsn older) r.lsn (is_growing older) g in
    elim (cases_Bool (nat_eq r.lsn n)) [
      | inl e ↦ (
          let q : option_map (λ rest. r ∷ rest) (chain older r.prev_volume) ≡ Some c = rw e at h in
          next (λ c' is. chain-grows older rest (λ s i. back s (inr i)) r.prev_volume c' is) (chain older r.prev_volume) refl q (eqb-true r.lsn n e))
      | inr e ↦ (let q : chain older n ≡ Some c = rw e at h in chain-grows older rest (λ s i. back s (inr i)) n c q)
    ]
  where
    next : ((c' : List Redo) → chain older r.prev_volume ≡ Some c' → (is_growing c' ≡ true) × (last_lsn c' ≡ r.prev_volume)) → (o : Option (List Redo)) → chain older r.prev_volume ≡ o → option_map (λ rest. r ∷ rest) o ≡ Some c → r.lsn ≡ n → (is_growing c ≡ true) × (last_lsn c ≡ n)
    next inner None is q at = cc
    next inner (Some older') is q at =
        let p : r ∷ older' ≡ c = cc in
        let (g', l) = inner older' is in
        let less : r.prev_volume < r.lsn = back r (inl refl) in
        let up : last_lsn older' < r.lsn = omega (arith, l, less) in
        (ap is_growing (sym p) ∙ ap₂ (λ a b. a && b) (lt-ltb (last_lsn older') r.lsn up) g', ap last_lsn (sym p) ∙ at)
