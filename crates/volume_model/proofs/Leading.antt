-- What leads down to 0 from a number, the cut, and the log found
use Rattle.std.proofs.Common.{◌≡◌, ℕ, zero, suc, ◌<◌, ◌≤◌, max, true, false, eqb, ◌⊎◌, List, [], ◌∷◌, Option, Some, None, if◌then◌else◌, refl, sym, ap, ◌∙◌, subst, inl, inr, arith, le_refl}
use Rattle.std.proofs.lemmas.Bool.{cases_Bool, true≢false, both_ways, eqb-true, eq-eqb, ne_eqb}
use Rattle.volume_model.specs.Common.{IsIn, Redo, spelling, is_same, numbers_before, first_of, record_at, follow, chain_from, ends_at_point, greatest_point, cut_of, log_found, IsGreatest, RecordAtIsFirst, LeadsDown, IsFoundPoint, VolumeLinksFall, CutIsGreatest, AreOnTheWay, LogFoundLeadsDown, at_zero, by_record}
use Rattle.volume_model.proofs.Records.{is_same-true}
use Rattle.volume_model.proofs.Ordered.{before-trans, before-total}
use Rattle.volume_model.proofs.Chains.{record_at-some, record_at-there, follow-some}
use Rattle.volume_model.proofs.Greatest.{greatest_where, greatest-from}
use Rattle.std.proofs.lemmas.Grind.{common_steps}
use Rattle.std.proofs.Common.{rules}

Some-is : {A : Type 0} (a b : A) → ◌≡◌ {A = Option A} (Some a) (Some b) → a ≡ b
Some-is a b h = cc

-- the record is t, or stands behind it in order of bytes
abbrev IsBehind : Redo → Redo → Type 0
IsBehind t s = (s ≡ t) ⊎ (numbers_before (spelling t) (spelling s) ≡ true)

-- a record that isn't behind another stands before what is behind that one
behind_both : (s u t : Redo) → numbers_before (spelling u) (spelling s) ≡ false → IsBehind u t → IsBehind s t
behind_both s u t not_before h =
    elim (cases_Bool (is_same u s)) [
      | inl e ↦ subst (λ z. IsBehind z t) (is_same-true u s e) h
      | inr e ↦ (
          let before : numbers_before (spelling s) (spelling u) ≡ true = before-total (spelling u) (spelling s) e not_before in
          elim h [
            | inl p ↦ inr (subst (λ z. numbers_before (spelling s) (spelling z) ≡ true) (sym p) before)
            | inr q ↦ inr (before-trans (spelling s) (spelling u) (spelling t) before q)
          ])
    ]

none_at : (records : List Redo) (n : ℕ) (t : Redo) → record_at records n ≡ None → IsIn t records → t.lsn ≡ n → ⊥
none_at records n t none i e = grind (arith, common_steps, record_at-there, Some)

first_at : (records : List Redo) (n : ℕ) (r : Redo) → record_at records n ≡ Some r → (t : Redo) → IsIn t records → t.lsn ≡ n → IsBehind r t
first_at [] n r h t i e = absurd i
first_at (s ∷ rest) n r h t i e =
    elim (cases_Bool (eqb s.lsn n)) [
      | inl own ↦ (
          let q : Some (first_of s (record_at rest n)) ≡ Some r = rw own at h in
          go (λ u at k. first_at rest n u at t k e) (record_at rest n) refl (Some-is (first_of s (record_at rest n)) r q) i)
      | inr other ↦ (
          let j : (t ≡ s) ⊎ IsIn t rest = i in
          elim j [
            | inl p ↦ absurd (both_ways (eqb s.lsn n) other (eq-eqb s.lsn n (ap (λ z. z.lsn) (sym p) ∙ e)))
            | inr k ↦ first_at rest n r (rw other at h) t k e
          ])
    ]
  where
    go : ((u : Redo) → record_at rest n ≡ Some u → IsIn t rest → IsBehind u t) → (found : Option Redo) → record_at rest n ≡ found → first_of s found ≡ r → (t ≡ s) ⊎ IsIn t rest → IsBehind r t
    go ih None at is (inl p) = inl (p ∙ is)
    go ih None at is (inr k) = absurd (none_at rest n t at k e)
    go ih (Some u) at is j =
        elim (cases_Bool (numbers_before (spelling u) (spelling s))) [
          | inl b ↦ search (rules, IsBehind)
          | inr b ↦ (
              let same : s ≡ r = rw b at is in
              subst (λ z. IsBehind z t) same (elim j [
                | inl p ↦ inl p
                | inr k ↦ behind_both s u t b (ih u at k)
              ]))
        ]

pub record_at_is_first : RecordAtIsFirst
record_at_is_first = record {
  is_first = λ records n r h. record { there = (record_at-some records n r h).0; number = (record_at-some records n r h).1; first = λ s i e. first_at records n r h s i e };
  is_there = λ records s i. record_at-there records s i;
}

-- a chain that is there leads down, by the records on the way
record IsLed (records : List Redo) (n : ℕ) (chain : List Redo) : Type 0 where
  down : LeadsDown records n
  way : AreOnTheWay records n chain

led_nowhere : (records : List Redo) (n : ℕ) (chain : List Redo) → eqb n 0 ≡ true → ◌≡◌ {A = Option (List Redo)} (Some []) (Some chain) → IsLed records n chain
led_nowhere records n chain e h =
    let z : n ≡ 0 = eqb-true n 0 e in
    record { down = at_zero n z; way = subst (AreOnTheWay records n) (Some-is [] chain h) z }

led : (records : List Redo) (steps n : ℕ) (chain : List Redo) → chain_from steps records n ≡ Some chain → IsLed records n chain
led records zero n chain h =
    elim (cases_Bool (eqb n 0)) [
      | inl e ↦ led_nowhere records n chain e (rw e at h)
      | inr e ↦ absurd (let q : ◌≡◌ {A = Option (List Redo)} None (Some chain) = rw e at h in cc)
    ]
led records (suc steps) n chain h =
    elim (cases_Bool (eqb n 0)) [
      | inl e ↦ led_nowhere records n chain e (rw e at h)
      | inr e ↦ (
          let q : follow (record_at records n) (λ r. chain_from steps records r.prev_volume) ≡ Some chain = rw e at h in
          let (r, found, older, next, is) = follow-some (record_at records n) (λ r. chain_from steps records r.prev_volume) chain q in
          let rest : IsLed records r.prev_volume older = led records steps r.prev_volume older next in
          record {
            down = by_record n r found rest.down;
            way = subst (AreOnTheWay records n) (sym is) (found, (record_at-some records n r found).1, rest.way);
          })
    ]

module _ (records : List Redo) (fall : VolumeLinksFall records) where
  -- a number at which a record counts isn't 0
  above_zero : (n : ℕ) (r : Redo) → record_at records n ≡ Some r → r.prev_volume < n
  above_zero n r found = grind (arith, common_steps, (record_at-some records n r found))

  -- where the number leads down the chain is there, in as many steps
  chain_there : (steps n : ℕ) → LeadsDown records n → n ≤ steps → (chain : List Redo) × (chain_from steps records n ≡ Some chain)
  chain_there zero m (at_zero n z) l = ([], rw (eq-eqb n 0 z) refl)
  chain_there (suc steps) m (at_zero n z) l = ([], rw (eq-eqb n 0 z) refl)
  chain_there zero m (by_record n r found down) l = absurd (let k : r.prev_volume < n = above_zero n r found in omega arith)
  chain_there (suc steps) m (by_record n r found down) l =
      let k : r.prev_volume < n = above_zero n r found in
      let (older, ih) = chain_there steps r.prev_volume down (omega arith) in
      let ne : eqb n 0 ≡ false = ne_eqb n 0 (λ z. omega arith) in
      (r ∷ older, rw (ne, found, ih) refl)

  found_point : (n : ℕ) (got : Option (List Redo)) → chain_from n records n ≡ got → ends_at_point got ≡ true → IsFoundPoint records n
  found_point n None e h = absurd (true≢false (sym h))
  found_point n (Some chain) e h = grind (arith, common_steps, (led records n n chain e))

  ends : (n : ℕ) (r : Redo) → record_at records n ≡ Some r → r.point ≡ true → (chain : List Redo) → AreOnTheWay records n chain → ends_at_point (Some chain) ≡ true
  ends n r at point [] way = absurd (let k : r.prev_volume < n = above_zero n r at in let z : n ≡ 0 = way in omega arith)
  ends n r at point (s ∷ older) way = grind (arith, common_steps)

  point_found : (n : ℕ) → IsFoundPoint records n → ends_at_point (chain_from n records n) ≡ true
  point_found n found =
      let (r, at, point, down) = found in
      let (chain, e) = chain_there n n down (le_refl n) in
      subst (λ z. ends_at_point z ≡ true) (sym e) (ends n r at point chain (led records n n chain e).way)

  greatest_point-where : (list : List Redo) → greatest_point records list ≡ greatest_where (λ r. ends_at_point (chain_from r.lsn records r.lsn)) (λ r. r.lsn) list
  greatest_point-where [] = refl
  greatest_point-where (r ∷ rest) = ap (max (if ends_at_point (chain_from r.lsn records r.lsn) then r.lsn else 0)) (greatest_point-where rest)

  as_element : (n : ℕ) → IsFoundPoint records n → (r : Redo) × IsIn r records × (ends_at_point (chain_from r.lsn records r.lsn) ≡ true) × (n ≤ r.lsn)
  as_element n found =
      let (r, at, point, down) = found in
      let (i, e) = record_at-some records n r at in
      (r, i, subst (λ m. ends_at_point (chain_from m records m) ≡ true) (sym e) (point_found n found), omega arith)

  pub cut_greatest : IsGreatest (IsFoundPoint records) (cut_of records)
  cut_greatest = search (rules, greatest_point-where, greatest-from, found_point, as_element)

  -- the chain from the cut is there
  cut_led : (chain : List Redo) × (chain_from (cut_of records) records (cut_of records) ≡ Some chain)
  cut_led =
      elim cut_greatest.is_one [
        | inl z ↦ ([], rw z refl)
        | inr found ↦ chain_there (cut_of records) (cut_of records) found.3 (le_refl (cut_of records))
      ]

  pub log_led : AreOnTheWay records (cut_of records) (log_found records)
  log_led =
      let (chain, e) = cut_led in
      rw e ((led records (cut_of records) (cut_of records) chain e).way)

pub cut_is_greatest : CutIsGreatest
cut_is_greatest records fall = cut_greatest records fall

pub log_found_leads_down : LogFoundLeadsDown
log_found_leads_down records fall = log_led records fall
