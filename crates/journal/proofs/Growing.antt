-- Each step keeps the rule of the history.
use Rattle.std.proofs.Common.{◌≡◌, ◌≢◌, ℕ, zero, suc, List, [], ◌∷◌, ◌++◌, set, true, false, true≢false, refl, sym, ◌∙◌, subst, ⊎_elim}
use mathlib.Core.Option.{some, some-ne-none, some-injective}
use mathlib.Core.List.{IsPrefix}
use lib.ListN.{get_elem?}
use Rattle.atomic_table.specs.Table.{Me, keeps, Allows, Splits, Joins}
use Rattle.atomic_table.proofs.Lists.{at_set, at_snoc, set_again}
use Rattle.journal.specs.declared.entry.Entry.{Entry}
use Rattle.journal.specs.declared.history.SeatView.{SeatView}
use Rattle.volume_model.proofs.Fronts.{prefix_self, prefix_trans}
use Rattle.journal.specs.History.{seat_view, Fits, Stands}

prefix_more : (xs ys : List Entry) (e : Entry) → IsPrefix xs ys → IsPrefix xs (ys ++ e ∷ [])
prefix_more xs ys e p = prefix_trans xs ys (ys ++ e ∷ []) p (e ∷ [], refl)

none_first : (xs : List Entry) → IsPrefix [] xs
none_first xs = (xs, refl)

off : false ≡ true → ⊥
off e = true≢false (sym e)

fits_set : (all : List Entry) (keeper : ℕ) (views : List SeatView) (id : ℕ) (w : SeatView) → ((p : ℕ) (v : SeatView) → p ≢ id → get_elem? views p ≡ some v → Fits all keeper p v) → Fits all keeper id w → (p : ℕ) (v : SeatView) → get_elem? (set views id w) p ≡ some v → Fits all keeper p v
fits_set all keeper views id w others mine p v e =
    ⊎_elim
    (λ (t : (p ≡ id) × (w ≡ v)). subst (λ (y : ℕ × SeatView). Fits all keeper y.0 y.1) (λ i. (sym t.0 i, t.1 i)) mine)
    (λ (t : (p ≢ id) × (get_elem? views p ≡ some v)). others p v t.0 t.1)
    (at_set views id p w v e)

-- the keeper adds an entry
pub extends : (slots id : ℕ) (m : Me (Unit {0}) SeatView) (e : Entry) → m.0.keeps ≡ true
    → Allows {S = Unit {0}} (λ s. Stands s.views) slots id m 0 (λ n. n) (λ _ after. (after.0 ≡ seat_view m.0.keeps (m.0.log ++ e ∷ []) []) × (after.1 ≡ m.1))
extends slots id m e keep s h sized here small =
    let top = (h.2 id m.0 here).2 keep in
    let all : List Entry = m.0.log ++ e ∷ [] in
    let w = seat_view m.0.keeps all [] in (
      w,
      keeps,
      tt,
      (
        all,
        h.1,
        fits_set all h.1 s.views id w
            (λ p v apart at. let f = h.2 p v at in (
              prefix_more v.log m.0.log e (subst (IsPrefix v.log) (sym top.1) f.0),
              prefix_more v.claim m.0.log e (subst (IsPrefix v.claim) (sym top.1) f.1),
              λ k. absurd (apart ((f.2 k).0 ∙ sym top.0)),
            ))
            (prefix_self all, none_first all, λ k. (top.0, refl)),
      ),
      (refl, refl),
    )

-- the keeper compares
pub compares : (slots id : ℕ) (m : Me (Unit {0}) SeatView) → m.0.keeps ≡ true
    → Allows {S = Unit {0}} (λ s. Stands s.views) slots id m 0 (λ n. n) (λ _ after. IsPrefix m.0.claim m.0.log × (after.0 ≡ m.0) × (after.1 ≡ m.1))
compares slots id m keep s h sized here small =
    let mine = h.2 id m.0 here in
    let top = mine.2 keep in (
      m.0,
      keeps,
      tt,
      (h.0, h.1, fits_set h.0 h.1 s.views id m.0 (λ p v _ at. h.2 p v at) mine),
      (subst (IsPrefix m.0.claim) (sym top.1) mine.1, refl, refl),
    )

-- what is new of a seat is a beginning
snoc : (views : List SeatView) (all : List Entry) (keeper : ℕ) (w : SeatView) → ((p : ℕ) (v : SeatView) → get_elem? views p ≡ some v → Fits all keeper p v) → ((p : ℕ) → Fits all keeper p w) → (p : ℕ) (u : SeatView) → get_elem? (views ++ w ∷ []) p ≡ some u → Fits all keeper p u
snoc views all keeper w old new p u e = ⊎_elim (λ at. old p u at) (λ (is : w ≡ u). subst (Fits all keeper p) is (new p)) (at_snoc views w u p e)

-- what is shown of the history is seen
pub splits : (id : ℕ) (v : SeatView) → Splits {S = Unit {0}} (λ s. Stands s.views) id v v (seat_view false v.log [])
splits id v s h here =
    subst (λ (l : List SeatView). Stands (l ++ seat_view false v.log [] ∷ [])) (sym (set_again s.views id v here))
    (h.0, h.1, snoc s.views h.0 h.1 (seat_view false v.log []) h.2 (λ p. ((h.2 id v here).0, none_first h.0, λ k. absurd (off k))))

-- what was compared is given back
pub returns : (id : ℕ) (v : SeatView) → Splits {S = Unit {0}} (λ s. Stands s.views) id v (seat_view v.keeps v.log []) (seat_view false v.claim [])
returns id v s h here =
    let mine = h.2 id v here in (
      h.0,
      h.1,
      snoc (set s.views id (seat_view v.keeps v.log [])) h.0 h.1 (seat_view false v.claim [])
          (fits_set h.0 h.1 s.views id (seat_view v.keeps v.log []) (λ p u _ at. h.2 p u at) (mine.0, none_first h.0, mine.2))
          (λ p. (mine.1, none_first h.0, λ k. absurd (off k))),
    )

-- what was seen is taken in
pub joins : (id : ℕ) (v : SeatView) (other : ℕ) (w : SeatView) → Joins {S = Unit {0}} (λ s. Stands s.views) id v other w (seat_view v.keeps v.log w.log) (seat_view false [] [])
joins id v other w s h here apart there =
    let both = seat_view v.keeps v.log w.log in
    let mine = h.2 id v here in
    let was = ⊎_elim (λ (t : (other ≡ id) × (both ≡ w)). absurd (apart t.0)) (λ (t : (other ≢ id) × (get_elem? s.views other ≡ some w)). h.2 other w t.1) (at_set s.views id other both w there) in (
      h.0,
      h.1,
      fits_set h.0 h.1 (set s.views id both) other (seat_view false [] [])
          (λ p u _ e. fits_set h.0 h.1 s.views id both (λ q x _ f. h.2 q x f) (mine.0, was.0, mine.2) p u e)
          (none_first h.0, none_first h.0, λ k. absurd (off k)),
    )

pub begins : Stands (seat_view true [] [] ∷ [])
begins = ([], 0, one)
  where
    one : (p : ℕ) (v : SeatView) → get_elem? (seat_view true [] [] ∷ []) p ≡ some v → Fits [] 0 p v
    one zero v e = subst (Fits [] 0 0) (some-injective (seat_view true [] []) v e) (none_first [], none_first [], λ _. (refl, refl))
    one (suc p) v e = absurd (some-ne-none v (sym e))
