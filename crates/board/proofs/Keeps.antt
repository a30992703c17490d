-- Each step of a seat keeps the rule of the board.
use Rattle.std.proofs.Common.{◌≡◌, ◌≢◌, ◌⊎◌, ℕ, zero, suc, ◌+◌, ◌-◌, ◌<◌, ◌≤◌, List, [], ◌∷◌, ◌++◌, length, get_or, set, refl, sym, ap, ◌∙◌, subst, inl, inr, ⊎_elim, arith, max, slice_set, slice_index}
use mathlib.Core.Option.{some, some-ne-none, some-injective}
use lib.ListN.{get_elem?}
use Rattle.atomic_table.specs.Table.{Me, keeps, Allows, Final, Joins, Seen, Splits}
use Rattle.atomic_table.proofs.Lists.{at_set, at_snoc, set_here, set_else, at_longer, at_last}
use Rattle.board.specs.declared.BoardStep.{BoardStep}
use Rattle.board.specs.declared.BoardStep.TheVariants.{Raised, Read}
use Rattle.board.specs.Board.{number_of, IsRaised, NeverFalls, IsBoard, IsKept, Stands, Looks, Raises}
use Rattle.board.specs.Shares.{View, first_of, seats_in, share_of, shares}
use Rattle.board.proofs.Shares.{Rearranged, at_seat, dealt_seats, dealt_shares, has_all, joined_seats, joined_shares, shares_set}
use Rattle.std.proofs.lemmas.Grind.{common_steps}
use Rattle.std.proofs.Common.{rules}

module _ {A : Type 0} where
  -- what stands in a list one longer stood there before, or is the new one
  pub at_push : (l : List A) (a b : A) (j : ℕ) → get_elem? (l ++ a ∷ []) j ≡ some b → ((j < length l) × (get_elem? l j ≡ some b)) ⊎ ((j ≡ length l) × (a ≡ b))
  at_push [] a b zero e = inr (refl, some-injective a b e)
  at_push [] a b (suc j) e = absurd (some-ne-none b (sym e))
  at_push (x ∷ xs) a b zero e = inl (omega arith, e)
  at_push (x ∷ xs) a b (suc j) e = ⊎_elim (λ t. let lt = t.0 in inl (omega arith, t.1)) (λ t. inr (ap suc t.0, t.1)) (at_push xs a b j e)

  pub in_range : (l : List A) (j : ℕ) (b : A) → get_elem? l j ≡ some b → j < length l
  in_range [] j b e = absurd (some-ne-none b (sym e))
  in_range (x ∷ xs) zero b e = omega arith
  in_range (x ∷ xs) (suc j) b e = let lt = in_range xs j b e in omega arith

  pub at_or : (l : List A) (k : ℕ) (d : A) → k < length l → get_elem? l k ≡ some (get_or l k d)
  at_or [] k d lt = absurd (omega arith)
  at_or (x ∷ xs) zero d lt = refl
  at_or (x ∷ xs) (suc k) d lt = at_or xs k d (omega arith)

-- one seat made the step x, and the word is now this
module _ (word now : ℕ) (views : List (List BoardStep)) (id : ℕ) (v : List BoardStep) (x : BoardStep) (board : IsBoard word views) (here : get_elem? views id ≡ some v) (le : word ≤ now) (fits : number_of x ≤ now) (top : (now ≡ word) ⊎ (x ≡ Raised now)) (read : (n : ℕ) → x ≡ Read n → n ≡ word) where
  abbrev grown : List BoardStep
  grown = v ++ x ∷ []

  abbrev after : List (List BoardStep)
  after = set views id grown

  here_now : get_elem? after id ≡ some grown
  here_now = set_here views id grown (in_range views id v here)

  still_raised : (n : ℕ) → IsRaised views n → IsRaised after n
  still_raised n r = grind (arith, common_steps, v, grown, here_now, at_longer, set_else)

  still : (n : ℕ) → (n ≡ 0) ⊎ IsRaised views n → (n ≡ 0) ⊎ IsRaised after n
  still n = ⊎_elim (λ z. inl z) (λ r. inr (still_raised n r))

  is_above : (seat at : ℕ) (u : List BoardStep) (s : BoardStep) → get_elem? after seat ≡ some u → get_elem? u at ≡ some s → number_of s ≤ now
  is_above seat i u s e f = grind (arith, common_steps, at_push, at_set)

  is_reached : (now ≡ 0) ⊎ IsRaised after now
  is_reached =
      ⊎_elim
      (λ (same : now ≡ word). subst (λ (n : ℕ). (n ≡ 0) ⊎ IsRaised after n) (sym same) (still word board.reached))
      (λ (new : x ≡ Raised now). inr (id, grown, length v, here_now, at_last v x (length v) refl ∙ ap some new))
      top

  each_was_raised : (seat at n : ℕ) (u : List BoardStep) → get_elem? after seat ≡ some u → get_elem? u at ≡ some (Read n) → (n ≡ 0) ⊎ IsRaised after n
  each_was_raised seat i n u e f =
      ⊎_elim
      (λ (t : (seat ≡ id) × (grown ≡ u)).
      ⊎_elim
      (λ (old : (i < length v) × (get_elem? v i ≡ some (Read n))). still n (board.was_raised id i n v here old.1))
      (λ (new : (i ≡ length v) × (x ≡ Read n)). subst (λ (m : ℕ). (m ≡ 0) ⊎ IsRaised after m) (sym (read n new.1)) (still word board.reached))
      (at_push v x (Read n) i (ap (λ l. get_elem? l i) t.1 ∙ f)))
      (λ (t : (seat ≢ id) × (get_elem? views seat ≡ some u)). still n (board.was_raised seat i n u t.1 f))
      (at_set views id seat grown u e)

  grown_rises : NeverFalls grown
  grown_rises i j n s lt f g = grind (arith, common_steps, at_push)

  is_rising : (seat : ℕ) (u : List BoardStep) → get_elem? after seat ≡ some u → NeverFalls u
  is_rising seat u e = grind (arith, common_steps, grown_rises, at_set)

  pub made : IsBoard now (set views id (v ++ x ∷ []))
  made = record { above = is_above; reached = is_reached; was_raised = each_was_raised; rising = is_rising }

  pub kept : IsKept now (v ++ x ∷ [])
  kept = (after, id, here_now, made)

-- a list of one seat
one_seat : (l : List (List BoardStep)) → length l ≡ 1 → l ≡ first_of l ∷ []
one_seat [] e = absurd (omega arith)
one_seat (x ∷ []) e = refl
one_seat (x ∷ y ∷ l) e = absurd (omega arith)

-- one seat of the views made the step x, and the word is now this
module _ (word now : ℕ) (views : List (View BoardStep)) (id : ℕ) (m : View BoardStep) (x : BoardStep) (one : length m.1 ≡ 1) (seats : ℕ) (all : shares views ≡ seats) (board : IsBoard word (seats_in views)) (here : get_elem? views id ≡ some m) (le : word ≤ now) (fits : number_of x ≤ now) (top : (now ≡ word) ⊎ (x ≡ Raised now)) (read : (n : ℕ) → x ≡ Read n → n ≡ word) where
  abbrev v : List BoardStep
  v = first_of m.1

  abbrev grown_view : View BoardStep
  grown_view = (m.0, (v ++ x ∷ []) ∷ [])

  one_view : get_elem? views id ≡ some (m.0, v ∷ [])
  one_view = here ∙ ap (λ (l : List (List BoardStep)). some (m.0, l)) (one_seat m.1 one)

  pub stands : (words : List ℕ) → words ≡ now ∷ [] → Stands seats words (set views id grown_view)
  stands words is =
      let place = at_seat views id m.0 v one_view in
      let same = shares_set views id m grown_view here in (
        omega (arith, same, one, all),
        (now, is, subst (IsBoard now) (sym (place.2 (v ++ x ∷ []))) (made word now (seats_in views) place.0 v x board place.1 le fits top read)),
      )

  pub is_kept : IsKept now (v ++ x ∷ [])
  is_kept = let place = at_seat views id m.0 v one_view in kept word now (seats_in views) place.0 v x board place.1 le fits top read

-- a raise
pub raises : (seats slots id : ℕ) (m : Me (Unit {0}) (View BoardStep)) (k : ℕ) → length m.0.1 ≡ 1 → Allows {S = Unit {0}} (λ s. Stands seats s.words s.views) slots id m 0 (λ n. max n k) (λ n after. Raises m.0 k after.0 × (after.1 ≡ m.1))
raises seats slots id m k one s h sized here small =
    let word = h.1.0 in
    let now = max word k in
    let top : (now ≡ word) ⊎ (Raised k ≡ Raised now) = grind (arith, common_steps) in
    let is : slice_set s.words 0 (max (slice_index s.words 0) k) ≡ now ∷ [] = ap (λ ws. slice_set ws 0 (max (slice_index ws 0) k)) h.1.1 in (
      (m.0.0, (first_of m.0.1 ++ Raised k ∷ []) ∷ []),
      keeps,
      tt,
      stands word now s.views id m.0 (Raised k) one seats h.0 h.1.2 here (omega arith) (omega arith) top (λ n e. absurd (cc)) (slice_set s.words 0 (max (slice_index s.words 0) k)) is,
      (record { step = refl; kept = (now, is_kept word now s.views id m.0 (Raised k) one seats h.0 h.1.2 here (omega arith) (omega arith) top (λ n e. absurd (cc))) }, refl),
    )

-- a reading
pub looks : (seats slots id : ℕ) (m : Me (Unit {0}) (View BoardStep)) → length m.0.1 ≡ 1 → Allows {S = Unit {0}} (λ s. Stands seats s.words s.views) slots id m 0 (λ n. n) (λ n after. Looks m.0 n after.0 × (after.1 ≡ m.1))
looks seats slots id m one s h sized here small =
    let word = h.1.0 in
    let found = slice_index s.words 0 in
    let is : found ≡ word = ap (λ ws. slice_index ws 0) h.1.1 in
    let read : (n : ℕ) → Read found ≡ Read n → n ≡ word = λ n e. let same : found ≡ n = cc in sym same ∙ is in
    let words_are : slice_set s.words 0 found ≡ word ∷ [] = ap (λ ws. slice_set ws 0 (slice_index ws 0)) h.1.1 in
    let v = first_of m.0.1 in
    let place = at_seat s.views id m.0.0 v (here ∙ ap (λ (l : List (List BoardStep)). some (m.0.0, l)) (one_seat m.0.1 one)) in (
      (m.0.0, (v ++ Read found ∷ []) ∷ []),
      keeps,
      tt,
      stands word word s.views id m.0 (Read found) one seats h.0 h.1.2 here (omega arith) (omega arith) (inl refl) read (slice_set s.words 0 found) words_are,
      (
        record {
          step = refl;
          at_least = λ k d lt. let a = h.1.2.above place.0 k v (get_or v k d) place.1 (at_or v k d lt) in omega arith;
          kept = subst (λ (n : ℕ). IsKept n (v ++ Read found ∷ [])) (sym is) (is_kept word word s.views id m.0 (Read found) one seats h.0 h.1.2 here (omega arith) (omega arith) (inl refl) read);
        },
        refl,
      ),
    )

-- one seat more, which has made no step
new_seat : (word : ℕ) (views : List (List BoardStep)) → IsBoard word views → IsBoard word (views ++ [] ∷ [])
new_seat word views board = grind (arith, common_steps, ℕ, at_longer, at_snoc)

-- the order of the seats is nothing to the rule
in_any_order : (word : ℕ) (xs ys : List (List BoardStep)) → Rearranged xs ys → IsBoard word xs → IsBoard word ys
in_any_order word xs ys r board = grind (arith, common_steps)

-- a seat is dealt
pub deals : (seats id : ℕ) (v : View BoardStep) → 0 < v.0 → Splits {S = Unit {0}} (λ s. Stands seats s.words s.views) id v (v.0 - 1, v.1) (0, [] ∷ [])
deals seats id v some_left s h here = search (rules, dealt_shares, v, dealt_seats, new_seat)

-- a seat is taken back
pub returns : (seats id : ℕ) (v : View BoardStep) (other : ℕ) (w : View BoardStep) → Joins {S = Unit {0}} (λ s. Stands seats s.words s.views) id v other w (v.0 + w.0, w.1 ++ v.1) (0, [])
returns seats id v other w s h here apart there = search (rules, joined_shares, v, in_any_order, joined_seats)

-- a new board, whose seats one view stands for
pub begins : (seats : ℕ) → 0 < seats → Stands seats (0 ∷ []) ((seats - 1, [] ∷ []) ∷ [])
begins seats any = grind (arith, common_steps)

-- the board at its end, when one view stands for all seats
pub ends : (seats : ℕ) (words : List ℕ) (slots : List (Unit {0})) (id number : ℕ) (v : View BoardStep) → share_of v ≡ seats → Final {S = Unit {0}} (Seen (λ s. Stands seats s.words s.views) id v) words slots → get_elem? words 0 ≡ some number → IsBoard number v.1
ends seats words slots id number v all last is = grind (arith, common_steps, v, has_all)
