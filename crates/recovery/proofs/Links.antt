-- Chains in a log whose numbers grow.
use Rattle.std.proofs.Common.{◌≡◌, ◌≢◌, ℕ, zero, suc, ◌<◌, ◌≤◌, max, Bool, true, false, ◌&&◌, nat_eq, List, [], ◌∷◌, Option, Some, None, option_map, is_some, if◌then◌else◌, refl, sym, ap, ap₂, ◌∙◌, inl, inr, arith, ◌==◌}
use Rattle.std.proofs.lemmas.Bool.{cases_Bool, eqb-true, eqb-false, ne_eqb, eq-eqb}
use Rattle.volume_model.specs.Common.{IsIn, Redo, record_at, follow, chain_from, ends_at_point, greatest_point, cut_of, last_lsn}
use Rattle.volume_model.proofs.Chains.{record_at-some, greatest_point-is}
use Rattle.writer_core.specs.Logs.{is_growing}
use Rattle.recovery.specs.Chains.{leads}
use Rattle.writer_core.proofs.Growing.{both}
use Rattle.writer_core.proofs.Finding.{at_most_last, record_at-none}

-- each record comes after the one that it leads to
abbrev pub IsBack : List Redo → Type 0
IsBack log = (r : Redo) → IsIn r log → r.prev_volume < r.lsn

-- the chain by prev_volume from a number down to 0, newest first
abbrev pub chain : List Redo → ℕ → Option (List Redo)
chain [] n = if n == 0 then Some [] else None
chain (r ∷ older) n = if r.lsn == n then option_map (λ rest. r ∷ rest) (chain older r.prev_volume) else chain older n

is_some-map : {A B : Type 0} (f : A → B) (o : Option A) → is_some (option_map f o) ≡ is_some o
is_some-map f None = refl
is_some-map f (Some x) = refl

pub leads-is : (log : List Redo) (n : ℕ) → is_some (chain log n) ≡ leads log n
leads-is [] n = elim (cases_Bool (nat_eq n 0)) [ inl e ↦ rw e refl | inr e ↦ rw e refl ]
leads-is (r ∷ older) n =
    elim (cases_Bool (nat_eq r.lsn n)) [
      | inl e ↦ rw e (is_some-map (λ rest. r ∷ rest) (chain older r.prev_volume) ∙ leads-is older r.prev_volume)
      | inr e ↦ rw e (leads-is older n)
    ]

pub chain-lower : (r : Redo) (older : List Redo) (n : ℕ) → n < r.lsn → chain (r ∷ older) n ≡ chain older n
chain-lower r older n h = ap (λ b. if b then option_map (λ rest. r ∷ rest) (chain older r.prev_volume) else chain older n) (ne_eqb r.lsn n (λ e. omega arith))

pub chain-zero : (log : List Redo) → is_growing log ≡ true → chain log 0 ≡ Some []
chain-zero [] g = refl
chain-zero (r ∷ older) g =
    let (below, rest) = both (last_lsn older) r.lsn (is_growing older) g in
    chain-lower r older 0 (omega arith) ∙ chain-zero older rest

pub record_at-above : (log : List Redo) → is_growing log ≡ true → (n : ℕ) → last_lsn log < n → record_at log n ≡ None
record_at-above log g n h = record_at-none log n (λ r i e. (let le : r.lsn ≤ last_lsn log = at_most_last log g r i in absurd (omega (arith, e))))

follow-same : (found : Option Redo) (f g : Redo → Option (List Redo)) → ((r : Redo) → found ≡ Some r → f r ≡ g r) → follow found f ≡ follow found g
follow-same None f g h = refl
follow-same (Some r) f g h = ap (option_map (λ older. r ∷ older)) (h r refl)

-- a chain goes on from the record of its number
pub chain-unfolds : (log : List Redo) → is_growing log ≡ true → IsBack log → (n : ℕ) → n ≢ 0 → chain log n ≡ follow (record_at log n) (λ r. chain log r.prev_volume)
chain-unfolds [] g back n h = ap (λ b. if b then Some [] else None) (ne_eqb n 0 h)
chain-unfolds (r ∷ older) g back n h =
    let (below, rest) = both (last_lsn older) r.lsn (is_growing older) g in
    elim (cases_Bool (nat_eq r.lsn n)) [
      | inl e ↦ (
          let same : r.lsn ≡ n = eqb-true r.lsn n e in
          let none : record_at older n ≡ None = record_at-above older rest n (omega (arith, same, below)) in
          let lower : chain (r ∷ older) r.prev_volume ≡ chain older r.prev_volume = chain-lower r older r.prev_volume (back r (inl refl)) in
          rw (e, none) (sym (ap (option_map (λ older. r ∷ older)) lower)))
      | inr e ↦ (
          let next : chain older n ≡ follow (record_at older n) (λ s. chain older s.prev_volume) = chain-unfolds older rest (λ s i. back s (inr i)) n h in
          let on : follow (record_at older n) (λ s. chain older s.prev_volume) ≡ follow (record_at older n) (λ s. chain (r ∷ older) s.prev_volume) =
          follow-same (record_at older n) (λ s. chain older s.prev_volume) (λ s. chain (r ∷ older) s.prev_volume) (λ s found. (
          let (i, at) = record_at-some older n s found in
          let le : s.lsn ≤ last_lsn older = at_most_last older rest s i in
          let lt : s.prev_volume < s.lsn = back s (inr i) in
          sym (chain-lower r older s.prev_volume (omega arith)))) in
          rw e (next ∙ on))
    ]

-- steps beyond the number don't matter
pub chain_from-is : (log : List Redo) → is_growing log ≡ true → IsBack log → (steps n : ℕ) → n ≤ steps → chain_from steps log n ≡ chain log n
chain_from-is log g back zero n h =
    let e : n ≡ 0 = omega arith in
    rw e (sym (chain-zero log g))
chain_from-is log g back (suc steps) n h =
    elim (cases_Bool (nat_eq n 0)) [
      | inl e ↦ (let z : n ≡ 0 = eqb-true n 0 e in rw z (sym (chain-zero log g)))
      | inr e ↦ (
          let on : follow (record_at log n) (λ r. chain_from steps log r.prev_volume) ≡ follow (record_at log n) (λ r. chain log r.prev_volume) =
          follow-same (record_at log n) (λ r. chain_from steps log r.prev_volume) (λ r. chain log r.prev_volume) (λ r found. (
          let (i, at) = record_at-some log n r found in
          let lt : r.prev_volume < r.lsn = back r i in
          chain_from-is log g back steps r.prev_volume (omega (arith, at, lt, h)))) in
          let first : chain_from (suc steps) log n ≡ follow (record_at log n) (λ r. chain_from steps log r.prev_volume) = ap (λ b. if b then Some [] else follow (record_at log n) (λ r. chain_from steps log r.prev_volume)) e in
          first ∙ on ∙ sym (chain-unfolds log g back n (eqb-false n 0 e)))
    ]

-- ---- the cut

abbrev is_end : List Redo → Redo → Bool
is_end records r = ends_at_point (chain_from r.lsn records r.lsn)

greatest-lower : (r : Redo) (older list : List Redo) → is_growing (r ∷ older) ≡ true → is_growing older ≡ true → IsBack (r ∷ older) → ((s : Redo) → IsIn s list → s.lsn < r.lsn) → greatest_point (r ∷ older) list ≡ greatest_point older list
greatest-lower r older [] g rest back low = refl
greatest-lower r older (s ∷ list) g rest back low =
    let lt : s.lsn < r.lsn = low s (inl refl) in
    let same : chain_from s.lsn (r ∷ older) s.lsn ≡ chain_from s.lsn older s.lsn =
    chain_from-is (r ∷ older) g back s.lsn s.lsn (omega arith) ∙ chain-lower r older s.lsn lt ∙ sym (chain_from-is older rest (λ t i. back t (inr i)) s.lsn s.lsn (omega arith)) in
    ap₂ (λ o m. max (if ends_at_point o then s.lsn else 0) m) same (greatest-lower r older list g rest back (λ t i. low t (inr i)))

ends-map : (r : Redo) (o : Option (List Redo)) → ends_at_point (option_map (λ rest. r ∷ rest) o) ≡ (is_some o && r.point)
ends-map r None = refl
ends-map r (Some rest) = refl

cut-most : (log : List Redo) → is_growing log ≡ true → cut_of log ≤ last_lsn log
cut-most log g = elim (greatest_point-is log log) [
  | inl z ↦ (let z' : cut_of log ≡ 0 = z in omega (arith, z'))
  | inr t ↦ (let le : t.0.lsn ≤ last_lsn log = at_most_last log g t.0 t.1 in let e : cut_of log ≡ t.0.lsn = t.3 in omega (arith, le, e))
]

-- one record more
pub cut-next : (r : Redo) (older : List Redo) → is_growing (r ∷ older) ≡ true → IsBack (r ∷ older) → cut_of (r ∷ older) ≡ (if leads older r.prev_volume && r.point then r.lsn else cut_of older)
cut-next r older g back =
    let (below, rest) = both (last_lsn older) r.lsn (is_growing older) g in
    let here : chain_from r.lsn (r ∷ older) r.lsn ≡ option_map (λ rest. r ∷ rest) (chain older r.prev_volume) =
    chain_from-is (r ∷ older) g back r.lsn r.lsn (omega arith) ∙ ap (λ b. if b then option_map (λ rest. r ∷ rest) (chain older r.prev_volume) else chain older r.lsn) (eq-eqb r.lsn r.lsn refl) in
    let end : is_end (r ∷ older) r ≡ (leads older r.prev_volume && r.point) = ap ends_at_point here ∙ ends-map r (chain older r.prev_volume) ∙ ap (λ b. b && r.point) (leads-is older r.prev_volume) in
    let lower : greatest_point (r ∷ older) older ≡ cut_of older = greatest-lower r older older g rest back (λ s i. (let le : s.lsn ≤ last_lsn older = at_most_last older rest s i in omega arith)) in
    let most : cut_of older ≤ last_lsn older = cut-most older rest in
    ap₂ (λ b m. max (if b then r.lsn else 0) m) end lower ∙ pick (leads older r.prev_volume && r.point) r.lsn (cut_of older) (omega arith)
  where
    pick : (b : Bool) (m n : ℕ) → n ≤ m → max (if b then m else 0) n ≡ (if b then m else n)
    pick true m n h = omega arith
    pick false m n h = omega arith

pub leads-above : (log : List Redo) → is_growing log ≡ true → (n : ℕ) → last_lsn log < n → leads log n ≡ false
leads-above [] g n h = ne_eqb n 0 (λ e. omega arith)
leads-above (r ∷ older) g n h =
    let (below, rest) = both (last_lsn older) r.lsn (is_growing older) g in
    ap (λ b. if b then leads older r.prev_volume else leads older n) (ne_eqb r.lsn n (λ e. omega arith)) ∙ leads-above older rest n (omega arith)
