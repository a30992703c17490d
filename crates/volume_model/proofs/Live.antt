-- A record is live exactly where it lives
use Rattle.std.proofs.Common.{◌≡◌, ℕ, ◌<◌, ◌≤◌, true, ◌&&◌, nat_le, eqb, ◌⊎◌, [], ◌∷◌, refl, sym, ap, ◌∙◌, inl, inr, arith}
use Rattle.std.proofs.lemmas.Bool.{cases_Bool, and_parts, and_from, true≢false, eqb-false, le-leb}
use Rattle.volume_model.specs.Common.{IsIn, Lineage, is_live, EpochsGrow, Lives, RecordsLive}
use Rattle.std.proofs.lemmas.Grind.{common_steps}

lives : (lineage : Lineage) → EpochsGrow lineage → (volume lsn : ℕ) → is_live lineage volume lsn ≡ true → Lives lineage volume lsn
lives [] grow volume lsn h = absurd (true≢false (sym h))
lives (e ∷ older) grow volume lsn h =
    elim (cases_Bool (eqb e.volume volume)) [
      | inl p ↦ grind (arith, common_steps)
      | inr n ↦ (
          let s : (nat_le lsn e.cut && is_live older volume lsn) ≡ true = rw n at h in
          let parts : (nat_le lsn e.cut ≡ true) × (is_live older volume lsn ≡ true) = and_parts _ _ s in
          grind (arith, common_steps, (lives older grow.1 volume lsn parts.1)))
    ]

is_live-from : (lineage : Lineage) → EpochsGrow lineage → (volume lsn : ℕ) → Lives lineage volume lsn → is_live lineage volume lsn ≡ true
is_live-from [] grow volume lsn h = absurd h.there
is_live-from (e ∷ older) grow volume lsn h =
    let own : h.entry.volume ≡ volume = h.own in
    let there : (h.entry ≡ e) ⊎ IsIn h.entry older = h.there in
    let above : h.entry.start < lsn = h.above_start in
    elim (cases_Bool (eqb e.volume volume)) [
      | inl p ↦ grind (arith, common_steps)
      | inr n ↦ elim there [
        | inl q ↦ absurd (eqb-false e.volume volume n (ap (λ z. z.volume) (sym q) ∙ own))
        | inr k ↦ (
            let c : lsn ≤ e.cut = h.not_cut_off e (inl refl) (omega arith) in
            let rest : Lives older volume lsn = record { entry = h.entry; there = k; own = own; above_start = above; not_cut_off = λ later i l. h.not_cut_off later (inr i) l } in
            rw n (and_from (nat_le lsn e.cut) _ (le-leb lsn e.cut c) (is_live-from older grow.1 volume lsn rest)))
      ]
    ]

pub records_live : RecordsLive
records_live lineage grow volume lsn = (lives lineage grow volume lsn, is_live-from lineage grow volume lsn)
