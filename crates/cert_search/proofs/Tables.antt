-- Claims are dealt, views are cut, and hands are made.
use Rattle.std.proofs.Common.{◌≡◌, ◌≢◌, ℕ, zero, suc, ◌+◌, ◌-◌, ◌<◌, ◌≤◌, ◌%◌, ◌==◌, List, [], ◌∷◌, ◌++◌, map, length, set, Bool, true, false, Some, IsSome, All, eqb-true, eq-eqb, get_or, refl, sym, ap, ◌∙◌, subst, zero-add, append_assoc, Vec, Global, arith, slice_get, if◌then◌else◌}
use Rattle.std.specs.List.{range_with_len}
use mathlib.Core.Logic.{dite}
use native.Mathlib.Decide.{ℕ_discrete}
use Rattle.std.proofs.lemmas.List.FromFn.{map-range_with_len_more}
use Rattle.cert_search.specs.declared.hand.Hand.{Hand}
use Rattle.cert_search.specs.declared.own.Own.{Own}
use Rattle.cert_search.specs.declared.steal_handle.StealHandle.{StealHandle}
use Rattle.cert_search.specs.declared.deque.DequeView.{DequeView}
use Rattle.cert_search.specs.declared.deque.Holder.TheVariants.{Owner}
use Rattle.cert_search.specs.Deque.{deque_view, guest_view, dealt_more, out_of}
use Rattle.cert_search.specs.NamedViews.{Name, NamedView, SameDeque, own_named, name_at, handle_named, named_views, look, share_of, share, round_of, IsRound}
use Rattle.cert_search.specs.Dealing.{Plain, own_out, own_view, open_deque, IsFilledTo, plain_of, own_plain, own_name, names_in, row_plain, fresh, fresh_part, fresh_row, outs, with_marks, GetsMarks, EachGetsMarks, AreOut, IsFilled}
use Rattle.cert_search.specs.Hands.{named_views_of, deques_of, deque_at, names_of, hand_plain, hands_from, fresh_hand, AreHands, IsOfDeal, IsDealt, AreDealt, ShareDeques}
use Rattle.cert_search.proofs.Rows.{map_set, map_get, map_at, map_from, map_len, map_push, map_twice, range_set, range_get, range_len, within, some_is, get_at, all_of, set_same, set_at, set_other}
use Rattle.cert_search.proofs.Shares.{claims_here, claims_elsewhere}
use Rattle.cert_search.proofs.Rounds.{round_has, round_apart, look_dealt, look_all}

-- a list that is made from a range grows by one
pub range_push : {A B : Type 0} (f : A → B) (F : ℕ → B) (a n : ℕ) (xs : List A) (y : A) → map f xs ≡ map F (range_with_len a n) → f y ≡ F (a + n) → map f (xs ++ y ∷ []) ≡ map F (range_with_len a (n + 1))
range_push f F a n xs y e is = map_push f xs y ∙ (λ i. e i ++ is i ∷ []) ∙ sym (map-range_with_len_more F a n (a + n) refl)

pub made_len : {A B : Type 0} (f : A → B) (F : ℕ → B) (n : ℕ) (xs : List A) → map f xs ≡ map F (range_with_len 0 n) → length xs ≡ n
made_len f F n xs e = sym (map_len f xs) ∙ ap length e ∙ range_len F 0 n

-- what stands in a list that is made from a range
pub made_at : {A B : Type 0} (f : A → B) (F : ℕ → B) (n : ℕ) (xs : List A) (d : ℕ) (x : A) → map f xs ≡ map F (range_with_len 0 n) → d < n → x ≡ get_or xs d x → f x ≡ F d
made_at f F n xs d x e lt is =
    let long = made_len f F n xs e in
    let here : Some (f x) ≡ Some (F d) =
    ap (λ y. Some (f y)) is ∙ sym (map_get f xs d x (omega (arith, long))) ∙ ap (λ l. slice_get l d) e ∙ range_get F 0 n d lt ∙ ap (λ k. Some (F k)) (zero-add d) in
    cc

-- a list whose elements are each as a range has them
pub range_ext : {A B : Type 0} (g : A → B) (G : ℕ → B) (a : ℕ) (xs : List A) → ((k : ℕ) (x : A) → slice_get xs k ≡ Some x → g x ≡ G (a + k)) → map g xs ≡ map G (range_with_len a (length xs))
range_ext g G a [] each = refl
range_ext g G a (x ∷ xs) each =
    let first : a + 0 ≡ a = omega arith in
    λ i. (each 0 x refl ∙ ap G first) i ∷ range_ext g G (a + 1) xs (λ k y e. let next : a + suc k ≡ (a + 1) + k = omega arith in each (suc k) y e ∙ ap G next) i

-- the next claim goes to the deque of its remainder
pub filled_more : (workers n d : ℕ) (owns : List Own) (o p : Own) → d < workers → d ≡ n % workers → IsFilledTo workers n owns → o ≡ get_or owns d o → SameDeque (own_named o) (own_named p) → (own_named p).1 ≡ dealt_more (own_named o).1 n → IsFilledTo workers (n + 1) (set owns d p)
filled_more workers n d owns o p lt number filled is same dealt =
    let was : own_view o ≡ open_deque workers n d = made_at own_view (open_deque workers n) workers owns d o filled lt is in
    let view : (own_named p).1 ≡ (open_deque workers (n + 1) d).1 =
    dealt ∙ ap (λ (v : ℕ × DequeView). dealt_more v.1 n) was ∙ ap (λ l. deque_view (Owner 0) true l [] 0 false) (sym (claims_here workers d n (sym number))) in
    let now : own_view p ≡ open_deque workers (n + 1) d = λ i. ((same.0 ∙ ap (λ (v : ℕ × DequeView). v.0) was) i, view i) in
    map_set own_view owns d p ∙ (λ i. set (filled i) d (now i))
    ∙ range_set (open_deque workers n) (open_deque workers (n + 1)) 0 workers d d (sym (zero-add d)) lt
    (λ k apart. ap (λ l. let t : ℕ × DequeView = (k, deque_view (Owner 0) true l [] 0 false) in t) (sym (claims_elsewhere workers k n (λ e. apart (sym e ∙ sym number)))))

-- one more mark of the end was dealt
pub marks_more : (n : ℕ) (o p q : Own) → GetsMarks n o p → GetsMarks 1 p q → GetsMarks (n + 1) o q
marks_more n o p q before now =
    let more : 1 + (n + (own_plain o).4) ≡ n + 1 + (own_plain o).4 = omega arith in
    let plain : with_marks 1 (with_marks n (own_plain o)) ≡ with_marks (n + 1) (own_plain o) = ap (λ m. let t : Plain = ((own_plain o).0, (own_plain o).1, (own_plain o).2, (own_plain o).3, m) in t) more in
    (now.0 ∙ ap (with_marks 1) before.0 ∙ plain, now.1 ∙ before.1)

-- one more deque gets its marks: those before it have them, and those behind it are as they were
module _ (n which : ℕ) (olds owns : List Own) (o p : Own) (lt : which < length owns) (is : o ≡ get_or owns which o) (gets : GetsMarks n o p) where
  pub marked_before : ((d : ℕ) (old new : Own) → d < which → slice_get olds d ≡ Some old → slice_get owns d ≡ Some new → GetsMarks n old new) → ((d : ℕ) → which ≤ d → slice_get owns d ≡ slice_get olds d)
      → (d : ℕ) (old new : Own) → d < which + 1 → slice_get olds d ≡ Some old → slice_get (set owns which p) d ≡ Some new → GetsMarks n old new
  marked_before before after d old new below e f =
      let here : slice_get owns which ≡ Some o = get_at owns which o lt ∙ ap Some (sym is) in
      dite (ℕ_discrete d which)
      (λ (same : d ≡ which).
      let was : Some o ≡ Some old = sym here ∙ after which (omega arith) ∙ ap (slice_get olds) (sym same) ∙ e in
      let now : Some p ≡ Some new = sym (set_at owns which p o here) ∙ ap (slice_get (set owns which p)) (sym same) ∙ f in
      let old_is = some_is o old was in
      let new_is = some_is p new now in
      subst (λ (x : Own). GetsMarks n x new) old_is (subst (λ (x : Own). GetsMarks n o x) new_is gets))
      (λ (apart : d ≢ which). before d old new (omega (arith, below, apart)) e (sym (set_other owns which d p apart) ∙ f))

  pub marked_after : ((d : ℕ) → which ≤ d → slice_get owns d ≡ slice_get olds d) → (d : ℕ) → which + 1 ≤ d → slice_get (set owns which p) d ≡ slice_get olds d
  marked_after after d le = set_other owns which d p (λ e. omega (arith, le, e)) ∙ after d (omega arith)

-- as many deques were dealt their claims as there are workers
pub filled_all : (workers n : ℕ) (first dealt : List Own) → IsFilledTo workers 0 first → IsFilledTo (length first) n dealt → IsFilledTo workers n dealt
filled_all workers n first dealt empty filled = subst (λ w. IsFilledTo w n dealt) (made_len own_view (open_deque workers 0) workers first empty) filled

-- deques that were dealt their claims, and then their marks
module _ (workers n : ℕ) (owns news : List Own) (filled : IsFilledTo workers n owns) (marked : EachGetsMarks workers owns news) where
  long : length news ≡ workers
  long = marked.as_many ∙ made_len own_view (open_deque workers n) workers owns filled

  -- a deque with its marks, as it was without them
  was : (k : ℕ) (x : Own) → slice_get news k ≡ Some x → (k < workers) × (o : Own) × (own_view o ≡ open_deque workers n k) × GetsMarks workers o x
  was k x e =
      let lt : k < workers = omega (arith, within news k x e, long) in
      let view = map_from own_view owns k (open_deque workers n k) (ap (λ l. slice_get l k) filled ∙ range_get (open_deque workers n) 0 workers k lt ∙ ap (λ m. Some (open_deque workers n m)) (zero-add k)) in
      (lt, view.0, view.2, marked.each k view.0 x view.1 e)

  pub filled_plain : IsFilled n workers news
  filled_plain = range_ext own_plain (fresh (names_in news) n workers) 0 news each ∙ ap (λ m. map (fresh (names_in news) n workers) (range_with_len 0 m)) long
    where
      each : (k : ℕ) (x : Own) → slice_get news k ≡ Some x → own_plain x ≡ fresh (names_in news) n workers (0 + k)
      each k x e =
          let t = was k x e in
          let marks : workers + 0 ≡ workers = omega arith in
          let plain : own_plain x ≡ fresh (names_in news) n workers k = λ i. (
            (ap (λ (p : Plain). p.0) t.3.0 ∙ ap (λ (v : ℕ × DequeView). v.0) t.2) i,
            (ap (λ (p : Plain). p.1) t.3.0 ∙ ap (λ (v : ℕ × DequeView). v.1.dealt) t.2) i,
            (ap (λ (p : Plain). p.2) t.3.0 ∙ ap (λ (v : ℕ × DequeView). v.1.got) t.2) i,
            sym (map_at own_name news k x e) i,
            (ap (λ (p : Plain). p.4) t.3.0 ∙ ap (λ (v : ℕ × DequeView). workers + v.1.marks) t.2 ∙ marks) i,
          ) in
          plain ∙ ap (fresh (names_in news) n workers) (sym (zero-add k))

  -- and no view of them is out
  pub none_out : AreOut workers 0 news
  none_out d lt =
      let out : slice_get (outs news) d ≡ Some (own_out (get_or news d (at d lt))) = map_get own_out news d (at d lt) (omega (arith, lt, long)) in
      let t = was d (get_or news d (at d lt)) (get_at news d (at d lt) (omega (arith, lt, long))) in
      out ∙ ap Some (t.3.1 ∙ ap (λ (v : ℕ × DequeView). out_of v.1.holder) t.2)
    where
      at : (d : ℕ) → d < workers → Own
      at d lt = by_list news (omega (arith, lt, long))
        where
          by_list : (xs : List Own) → 0 < length xs → Own
          by_list [] below = absurd (omega arith)
          by_list (x ∷ xs) below = x

-- a view is cut, and the deque stays as it was
pub plain_still : (d : ℕ) (owns : List Own) (o p : Own) → d < length owns → o ≡ get_or owns d o → own_plain p ≡ own_plain o → map own_plain (set owns d p) ≡ map own_plain owns
plain_still d owns o p lt is same =
    let at : slice_get (map own_plain owns) d ≡ Some (own_plain o) = map_get own_plain owns d o lt ∙ ap (λ y. Some (own_plain y)) (sym is) in
    map_set own_plain owns d p ∙ ap (λ q. set (map own_plain owns) d q) same ∙ set_same (map own_plain owns) d (own_plain o) at

-- deques that are plainly the same have the same names
pub same_names : (owns owns' : List Own) → map own_plain owns' ≡ map own_plain owns → names_in owns' ≡ names_in owns
same_names [] [] e = refl
same_names [] (y ∷ ys) e = absurd (cc (e))
same_names (x ∷ xs) [] e = absurd (cc (e))
same_names (x ∷ xs) (y ∷ ys) e =
    let first : own_plain y ≡ own_plain x = cc (e) in
    let rest : map own_plain ys ≡ map own_plain xs = cc (e) in
    let some : Some (own_name y) ≡ Some (own_name x) = ap (λ (q : Plain). q.3) first in
    let name : own_name y ≡ own_name x = cc (some) in
    λ i. name i ∷ same_names xs ys rest i

pub filled_same : (claims workers : ℕ) (owns owns' : List Own) → map own_plain owns' ≡ map own_plain owns → IsFilled claims workers owns → IsFilled claims workers owns'
filled_same claims workers owns owns' same filled = same ∙ filled ∙ ap (λ names. map (fresh names claims workers) (range_with_len 0 workers)) (sym (same_names owns owns' same))

-- the view of one more deque
pub part_more : (names : List Name) (claims workers which k d : ℕ) (o : Own) (r : StealHandle) (row : List StealHandle) → 1 ≤ k → d ≡ (which + k) % workers → own_plain o ≡ fresh names claims workers d → SameDeque (own_named o) (handle_named r) → (handle_named r).1 ≡ guest_view (own_named o).1.dealt (own_named o).1.marks
    → row_plain row ≡ fresh_part names claims workers which (k - 1) → row_plain (row ++ r ∷ []) ≡ fresh_part names claims workers which (k + 1 - 1)
part_more names claims workers which k d o r row ge is mine same cut part =
    let seen : plain_of (handle_named r) ≡ fresh names claims workers d = (λ i. let t : Plain = (same.0 i, (cut i).dealt, (cut i).got, Some (same.1 i), (cut i).marks) in t) ∙ ap (λ (p : Plain). let t : Plain = (p.0, p.1, [], p.3, p.4) in t) mine in
    let number : d ≡ (which + (1 + (k - 1))) % workers = let e : k ≡ 1 + (k - 1) = omega arith in is ∙ ap (λ n. (which + n) % workers) e in
    let more : (k - 1) + 1 ≡ k + 1 - 1 = omega arith in
    range_push (λ (x : StealHandle). plain_of (handle_named x)) (λ n. fresh names claims workers ((which + n) % workers)) 1 (k - 1) row r part (seen ∙ ap (fresh names claims workers) number) ∙ ap (fresh_part names claims workers which) more

-- the number of a deque, and what it was dealt
abbrev first_two : Plain → ℕ × List ℕ
first_two p = (p.0, p.1)

-- a worker that has its own deque and the views of all others
pub hand_round : (names : List Name) (claims workers n : ℕ) (own : Own) (others : List StealHandle) → n < workers → own_plain own ≡ fresh names claims workers n → row_plain others ≡ fresh_row names claims workers n → IsRound claims workers own.which (named_views own others)
hand_round names claims workers n own others lt mine row =
    subst (λ d. IsRound claims workers d (named_views own others)) (sym (ap (λ (p : Plain). p.0) mine)) (record {
      within = lt;
      shares = λ i. ap first_two mine i ∷ rest i;
    })
  where
    range : List ℕ
    range = range_with_len 1 (workers - 1)

    rest : map share_of (map handle_named others) ≡ map (share claims workers) (map (λ k. (n + k) % workers) (range_with_len 1 (workers - 1)))
    rest =
        map_twice handle_named share_of others ∙ sym (map_twice (λ r. plain_of (handle_named r)) first_two others) ∙ ap (map first_two) row
        ∙ map_twice (λ k. fresh names claims workers ((n + k) % workers)) first_two (range_with_len 1 (workers - 1)) ∙ sym (map_twice (λ k. (n + k) % workers) (share claims workers) (range_with_len 1 (workers - 1)))

-- the hands that are made of the workers' deques, and of their views of the others
pub hands_made : (names : List Name) (claims workers a n : ℕ) (owns : List Own) (rows : List (Vec StealHandle Global)) → map own_plain owns ≡ map (fresh names claims workers) (range_with_len a n) → map (λ row. row_plain row.items) rows ≡ map (fresh_row names claims workers) (range_with_len a n)
    → ((k : ℕ) (o : Own) → slice_get owns k ≡ Some o → own_out o ≡ workers - 1) → hands_from owns rows ≡ map (fresh_hand names claims workers) (range_with_len a n)
hands_made names claims workers a zero [] rows mine seen out = refl
hands_made names claims workers a zero (o ∷ os) rows mine seen out = absurd (cc (mine))
hands_made names claims workers a (suc n) [] rows mine seen out = absurd (cc (mine))
hands_made names claims workers a (suc n) (o ∷ os) [] mine seen out = absurd (cc (seen))
hands_made names claims workers a (suc n) (o ∷ os) (r ∷ rs) mine seen out =
    let own : own_plain o ≡ fresh names claims workers a = cc (mine) in
    let owns : map own_plain os ≡ map (fresh names claims workers) (range_with_len (a + 1) n) = cc (mine) in
    let row : row_plain r.items ≡ fresh_row names claims workers a = cc (seen) in
    let rows : map (λ row. row_plain row.items) rs ≡ map (fresh_row names claims workers) (range_with_len (a + 1) n) = cc (seen) in
    λ i. (out 0 o refl i, own i ∷ row i) ∷ hands_made names claims workers (a + 1) n os rs owns rows (λ k p e. out (suc k) p e) i

-- one more hand is made
pub hands_more : (hands hands' : List Hand) (owns owns' : List Own) (rows rows' : List (Vec StealHandle Global)) (own : Own) (row : Vec StealHandle Global) (h : Hand) (all : List (ℕ × List Plain)) → hands' ≡ hands ++ h ∷ [] → owns ≡ own ∷ owns' → rows ≡ row ∷ rows' → (h.own ≡ own) × (h.others ≡ row)
    → length owns ≡ length rows → map hand_plain hands ++ hands_from owns rows ≡ all → (length owns' ≡ length rows') × (map hand_plain hands' ++ hands_from owns' rows' ≡ all)
hands_more hands hands' owns owns' rows rows' own row h all more is are made count before =
    let first : hand_plain h ≡ ((own_out own, own_plain own ∷ row_plain row.items)) =
    λ i. (own_out (made.0 i), own_plain (made.0 i) ∷ (map_twice handle_named plain_of h.others.items ∙ ap (λ (v : Vec StealHandle Global). row_plain v.items) made.1) i) in (
      omega (arith, count, ap length is, ap length are),
      ap (λ l. map hand_plain l ++ hands_from owns' rows') more ∙ ap (λ l. l ++ hands_from owns' rows') (map_push hand_plain hands h) ∙ append_assoc (map hand_plain hands) (hand_plain h ∷ []) (hands_from owns' rows')
          ∙ ap (λ p. map hand_plain hands ++ p ∷ hands_from owns' rows') first ∙ (λ i. map hand_plain hands ++ hands_from (sym is i) (sym are i)) ∙ before,
    )

-- nothing has been had
pub look_none : (ss : List NamedView) (d : ℕ) → ((k : ℕ) (s : NamedView) → slice_get ss k ≡ Some s → s.1.got ≡ []) → (look d ss).got ≡ []
look_none [] d none = refl
look_none (x ∷ xs) d none = by_test (x.0 == d) (none 0 x refl) (look_none xs d (λ k s e. none (suc k) s e))
  where
    by_test : (b : Bool) → x.1.got ≡ [] → (look d xs).got ≡ [] → (if b then x.1 else look d xs).got ≡ []
    by_test true here there = here
    by_test false here there = there

-- the hand of the worker i
module _ (names : List Name) (claims workers i : ℕ) (h : Hand) (is : hand_plain h ≡ fresh_hand names claims workers i) (below : i < workers) where
  plain_is : map plain_of (named_views_of h) ≡ fresh names claims workers i ∷ fresh_row names claims workers i
  plain_is = ap (λ (p : ℕ × List Plain). p.1) is

  own_plain_is : own_plain h.own ≡ fresh names claims workers i
  own_plain_is = ap (λ l. get_or l 0 (fresh names claims workers i)) plain_is

  row_is : row_plain h.others.items ≡ fresh_row names claims workers i
  row_is = let rest : map plain_of (map handle_named h.others.items) ≡ fresh_row names claims workers i = cc (plain_is) in sym (map_twice handle_named plain_of h.others.items) ∙ rest

  own_is : h.own.which ≡ i
  own_is = ap (λ (p : Plain). p.0) own_plain_is

  pub hand_deal : IsOfDeal claims workers h
  hand_deal = record { round = hand_round names claims workers i h.own h.others.items below own_plain_is row_is; lent = ap (λ (p : ℕ × List Plain). p.0) is }

  round_is : deques_of h ≡ round_of workers i
  round_is =
      sym (map_twice plain_of (λ (p : Plain). p.0) (named_views_of h)) ∙ ap (map (λ (p : Plain). p.0)) plain_is
      ∙ ap (λ l. i ∷ l) (map_twice (λ k. fresh names claims workers ((i + k) % workers)) (λ (p : Plain). p.0) (range_with_len 1 (workers - 1)))

  none_at : (k : ℕ) (p : Plain) → slice_get (fresh names claims workers i ∷ fresh_row names claims workers i) k ≡ Some p → p.2 ≡ []
  none_at zero p e = let e' : fresh names claims workers i ≡ p = cc in ap (λ (q : Plain). q.2) (sym e')
  none_at (suc k) p e = let t = map_from (λ n. fresh names claims workers ((i + n) % workers)) (range_with_len 1 (workers - 1)) k p e in ap (λ (q : Plain). q.2) (sym t.2)

  marks_at : (k : ℕ) (p : Plain) → slice_get (fresh names claims workers i ∷ fresh_row names claims workers i) k ≡ Some p → p.4 ≡ workers
  marks_at zero p e = let e' : fresh names claims workers i ≡ p = cc in ap (λ (q : Plain). q.4) (sym e')
  marks_at (suc k) p e = let t = map_from (λ n. fresh names claims workers ((i + n) % workers)) (range_with_len 1 (workers - 1)) k p e in ap (λ (q : Plain). q.4) (sym t.2)

  all_marked : All (λ s. s.1.marks ≡ workers) (named_views_of h)
  all_marked = all_of (λ s. s.1.marks ≡ workers) (named_views_of h) (λ k s lt e. marks_at k (plain_of s) (ap (λ l. slice_get l k) (sym plain_is) ∙ map_at plain_of (named_views_of h) k s e))

  pub dealt_hand : IsDealt claims workers i h
  dealt_hand = record {
    own_is = own_is;
    round = round_is;
    each_once = λ d lt.
        let k = round_has workers i d below lt in
        (k.0, ap (λ l. slice_get l k.0) round_is ∙ k.1, λ j e. round_apart workers i j k.0 d below (ap (λ l. slice_get l j) (sym round_is) ∙ e) k.1);
    dealt = λ d lt. look_dealt claims workers h.own.which (named_views_of h) hand_deal.round d lt;
    marked = λ d lt. look_all claims workers h.own.which (named_views_of h) hand_deal.round (λ v. v.marks ≡ workers) all_marked d lt;
    none_had = λ d. look_none (named_views_of h) d (λ k s e. none_at k (plain_of s) (ap (λ l. slice_get l k) (sym plain_is) ∙ map_at plain_of (named_views_of h) k s e));
  }

-- which deque has a number, where each entry has the name of its number
module _ (names : List Name) (d : ℕ) where
  abbrev Found : List (ℕ × Name) → Type 0
  Found ps = (m : Name) × (name_at d ps ≡ Some m) × (slice_get names d ≡ Some m)

  name_here : (x : ℕ × Name) (xs : List (ℕ × Name)) → Some x.1 ≡ slice_get names x.0 → x.0 ≡ d → Found (x ∷ xs)
  name_here x xs named is = (x.1, ap (λ (b : Bool). if b then Some x.1 else name_at d xs) (eq-eqb x.0 d is), ap (slice_get names) (sym is) ∙ sym named)

  name_later : (x : ℕ × Name) (xs : List (ℕ × Name)) → Some x.1 ≡ slice_get names x.0 → Found xs → Found (x ∷ xs)
  name_later x xs named later = by_test (x.0 == d) refl
    where
      by_test : (b : Bool) → (x.0 == d) ≡ b → Found (x ∷ xs)
      by_test true same = name_here x xs named (eqb-true x.0 d same)
      by_test false differ = (later.0, ap (λ (b : Bool). if b then Some x.1 else name_at d xs) differ ∙ later.1, later.2)

  name_found : (ps : List (ℕ × Name)) (k : ℕ) (p : ℕ × Name) → ((j : ℕ) (q : ℕ × Name) → slice_get ps j ≡ Some q → Some q.1 ≡ slice_get names q.0) → slice_get ps k ≡ Some p → p.0 ≡ d → Found ps
  name_found [] k p each e is = absurd (cc (e))
  name_found (x ∷ xs) zero p each e is = let first : x ≡ p = cc (e) in name_here x xs (each 0 x refl) (ap (λ (q : ℕ × Name). q.0) first ∙ is)
  name_found (x ∷ xs) (suc k) p each e is = name_later x xs (each 0 x refl) (name_found xs k p (λ j q f. each (suc j) q f) e is)

-- a hand reaches the deques with these names
module _ (names : List Name) (claims workers i : ℕ) (h : Hand) (is : hand_plain h ≡ fresh_hand names claims workers i) (below : i < workers) where
  named_at : (k : ℕ) (p : Plain) → slice_get (fresh names claims workers i ∷ fresh_row names claims workers i) k ≡ Some p → p.3 ≡ slice_get names p.0
  named_at zero p e = let e' : fresh names claims workers i ≡ p = cc in subst (λ (q : Plain). q.3 ≡ slice_get names q.0) e' refl
  named_at (suc k) p e = let t = map_from (λ n. fresh names claims workers ((i + n) % workers)) (range_with_len 1 (workers - 1)) k p e in subst (λ (q : Plain). q.3 ≡ slice_get names q.0) t.2 refl

  name_of_hand : (d : ℕ) → d < workers → (m : Name) × (deque_at h d ≡ Some m) × (slice_get names d ≡ Some m)
  name_of_hand d lt =
      let once = (dealt_hand names claims workers i h is below).each_once d lt in
      let s = map_from (λ (t : NamedView). t.0) (named_views_of h) once.0 d once.1 in
      name_found names d (names_of h) once.0 (let p : ℕ × Name = (s.0.0, s.0.2) in p) each (map_at (λ (t : NamedView). let p : ℕ × Name = (t.0, t.2) in p) (named_views_of h) once.0 s.0 s.1) s.2
    where
      each : (j : ℕ) (q : ℕ × Name) → slice_get (names_of h) j ≡ Some q → Some q.1 ≡ slice_get names q.0
      each j q e =
          let s = map_from (λ (t : NamedView). let p : ℕ × Name = (t.0, t.2) in p) (named_views_of h) j q e in
          let named = named_at j (plain_of s.0) (sym (ap (λ l. slice_get l j) (ap (λ (p : ℕ × List Plain). p.1) is)) ∙ map_at plain_of (named_views_of h) j s.0 s.1) in
          subst (λ (r : ℕ × Name). Some r.1 ≡ slice_get names r.0) s.2 named

-- the hands of all workers
module _ (names : List Name) (claims workers : ℕ) (hands : List Hand) (are : AreHands names claims workers hands) where
  hand_below : (i : ℕ) (h : Hand) → slice_get hands i ≡ Some h → i < workers
  hand_below i h e = omega (arith, within hands i h e, made_len hand_plain (fresh_hand names claims workers) workers hands are)

  each_hand : (i : ℕ) (h : Hand) → slice_get hands i ≡ Some h → hand_plain h ≡ fresh_hand names claims workers i
  each_hand i h e =
      let here : Some (hand_plain h) ≡ Some (fresh_hand names claims workers i) =
      sym (map_at hand_plain hands i h e) ∙ ap (λ l. slice_get l i) are ∙ range_get (fresh_hand names claims workers) 0 workers i (hand_below i h e) ∙ ap (λ k. Some (fresh_hand names claims workers k)) (zero-add i) in
      cc (here)

  pub hands_dealt : AreDealt claims workers hands
  hands_dealt i h e = dealt_hand names claims workers i h (each_hand i h e) (hand_below i h e)

  pub hands_deal : (i : ℕ) (h : Hand) → slice_get hands i ≡ Some h → IsOfDeal claims workers h
  hands_deal i h e = hand_deal names claims workers i h (each_hand i h e) (hand_below i h e)

  -- and they share the deques
  pub hands_share : ShareDeques workers hands
  hands_share i j d h g e f lt =
      let a = name_of_hand names claims workers i h (each_hand i h e) (hand_below i h e) d lt in
      let b = name_of_hand names claims workers j g (each_hand j g f) (hand_below j g f) d lt in
      record { same = a.1 ∙ sym a.2 ∙ b.2 ∙ sym b.1; some = subst IsSome (sym a.1) refl }
