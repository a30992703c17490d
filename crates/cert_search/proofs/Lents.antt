-- How many views of each deque are out.
use Rattle.std.proofs.Common.{◌≡◌, ◌≢◌, ℕ, zero, suc, ◌+◌, ◌-◌, ◌<◌, ◌≤◌, ◌%◌, List, length, set, get_or, Some, sym, ap, ◌∙◌, arith, slice_get}
use mathlib.Core.Logic.{dite}
use native.Mathlib.Decide.{ℕ_discrete}
use Rattle.cert_search.specs.declared.own.Own.{Own}
use Rattle.cert_search.specs.NamedViews.{round_of}
use Rattle.cert_search.specs.Dealing.{own_out, outs, AreOut, LendsOthers}
use Rattle.cert_search.proofs.Rows.{map_set, map_get, map_at, set_at, set_other, within}
use Rattle.cert_search.proofs.Rounds.{round_get, round_at, round_has, round_apart}

module _ (workers which : ℕ) (below : which < workers) where
  abbrev spot : ℕ → ℕ
  spot j = (which + j) % workers

  spot_apart : (i j : ℕ) → i < workers → j < workers → spot i ≡ spot j → i ≡ j
  spot_apart i j lt lt' same = round_apart workers which i j (spot i) below (round_get workers which i below lt) (round_get workers which j below lt' ∙ ap Some (sym same))

  spot_first : spot 0 ≡ which
  spot_first = let both : Some (spot 0) ≡ Some which = sym (round_get workers which 0 below (omega arith)) in cc (both)

  -- one more view of each of the next deques is out, below the k-th
  pub record IsLentTo (k : ℕ) (first owns : List Own) : Type 0 where
    pub lent : (j n : ℕ) → 1 ≤ j → j < k → slice_get (outs first) (spot j) ≡ Some n → slice_get (outs owns) (spot j) ≡ Some (suc n)
    pub kept : (d : ℕ) → ((j : ℕ) → 1 ≤ j → j < k → spot j ≢ d) → slice_get (outs owns) d ≡ slice_get (outs first) d

  module _ (k e : ℕ) (first owns : List Own) (o p : Own) (ge : 1 ≤ k) (lt : k < workers) (turn : e ≡ spot k) (inside : e < length owns) (is : o ≡ get_or owns e o) (more : own_out p ≡ suc (own_out o)) where
    pub lent_step : IsLentTo k first owns → IsLentTo (k + 1) first (set owns e p)
    lent_step t =
        let moved = map_set own_out owns e p in
        let here : slice_get (outs owns) e ≡ Some (own_out o) = map_get own_out owns e o inside ∙ ap (λ y. Some (own_out y)) (sym is) in
        record {
          lent = λ j n ge' lt' was.
              dite (ℕ_discrete j k)
              (λ (same : j ≡ k).
              let at : spot j ≡ e = ap spot same ∙ sym turn in
              let unseen = t.kept e (λ i ge'' lt'' f. let g = spot_apart i k (omega arith) lt (f ∙ turn) in omega (arith, g)) in
              let count : Some (own_out o) ≡ Some n = sym here ∙ unseen ∙ ap (slice_get (outs first)) (sym at) ∙ was in
              let number : own_out o ≡ n = cc (count) in
              ap (λ l. slice_get l (spot j)) moved ∙ ap (slice_get (set (outs owns) e (own_out p))) at ∙ set_at (outs owns) e (own_out p) (own_out o) here ∙ ap Some (more ∙ ap suc number))
              (λ (differ : j ≢ k).
              let apart : spot j ≢ e = λ f. differ (spot_apart j k (omega (arith, lt')) lt (f ∙ turn)) in
              ap (λ l. slice_get l (spot j)) moved ∙ set_other (outs owns) e (spot j) (own_out p) apart ∙ t.lent j n ge' (omega (arith, lt', differ)) was);
          kept = λ d none.
              ap (λ l. slice_get l d) moved ∙ set_other (outs owns) e d (own_out p) (λ f. none k ge (omega arith) (sym turn ∙ sym f)) ∙ t.kept d (λ j ge' lt'. none j ge' (omega arith));
        }

  pub lent_done : (k : ℕ) (first owns : List Own) → workers ≤ k → k ≤ workers → IsLentTo k first owns → LendsOthers workers which first owns
  lent_done k first owns le le' t = record {
    lent = λ d n lt apart was.
        let r = round_has workers which d below lt in
        let at = round_at workers which r.0 d below r.1 in
        let later : 1 ≤ r.0 = not_first r.0 d r.1 apart in
        ap (slice_get (outs owns)) (sym at.1) ∙ t.lent r.0 n later (omega (arith, at.0)) (ap (slice_get (outs first)) at.1 ∙ was);
    kept = t.kept which (λ j ge lt f. let g = spot_apart j 0 (omega arith) (omega arith) (f ∙ sym spot_first) in omega (arith, g));
  }
    where
      not_first : (j d : ℕ) → slice_get (round_of workers which) j ≡ Some d → d ≢ which → 1 ≤ j
      not_first zero d e apart = let is : which ≡ d = cc (e) in absurd (apart (sym is))
      not_first (suc j) d e apart = omega arith

-- the views of the first rows are out
pub record IsLentRows (workers n : ℕ) (owns : List Own) : Type 0 where
  pub past : (d : ℕ) → d < n → slice_get (outs owns) d ≡ Some (n - 1)
  pub next : (d : ℕ) → n ≤ d → d < workers → slice_get (outs owns) d ≡ Some n

pub rows_more : (workers n : ℕ) (owns news : List Own) → n < workers → IsLentRows workers n owns → LendsOthers workers n owns news → IsLentRows workers (n + 1) news
rows_more workers n owns news below t lends = record {
  past = λ d lt.
      dite (ℕ_discrete d n)
      (λ (is : d ≡ n). let same : n ≡ n + 1 - 1 = omega arith in ap (slice_get (outs news)) is ∙ lends.kept ∙ t.next n (omega arith) below ∙ ap Some same)
      (λ (apart : d ≢ n).
      let less : d < n = omega (arith, lt, apart) in
      let same : suc (n - 1) ≡ n + 1 - 1 = omega arith in
      lends.lent d (n - 1) (omega arith) apart (t.past d less) ∙ ap Some same);
  next = λ d le lt. let same : suc n ≡ n + 1 = omega arith in lends.lent d n lt (λ e. omega (arith, e)) (t.next d (omega arith) lt) ∙ ap Some same;
}

-- each of the deques that are left has so many views out
pub outs_at : (workers n : ℕ) (owns : List Own) (k : ℕ) (o : Own) → length owns ≡ workers → AreOut workers n owns → slice_get owns k ≡ Some o → own_out o ≡ n
outs_at workers n owns k o long out e =
    let lt = within owns k o e in
    let both : Some (own_out o) ≡ Some n = sym (map_at own_out owns k o e) ∙ out k (omega (arith, lt, long)) in
    cc (both)
