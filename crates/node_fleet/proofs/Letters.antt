-- Each step of a seat keeps the rule of the places.
use Rattle.std.proofs.Common.{◌≡◌, ◌⊎◌, ℕ, zero, suc, ◌+◌, ◌-◌, ◌<◌, List, [], ◌∷◌, ◌++◌, length, set, Option, refl, sym, ap, ◌∙◌, subst, ⊎_elim, append_assoc, arith, append-nil}
use mathlib.Core.Option.{some, some-ne-none, some-injective}
use lib.ListN.{get_elem?}
use Rattle.atomic_table.proofs.Lists.{at_longer, at_last}
use Rattle.crossbeam_channel.specs.Fifo.{Pushes, Pops, Forks, Learns, Merges}
use Rattle.board.specs.Shares.{first_of, seats_in, share_of, shares}
use Rattle.board.proofs.Shares.{Rearranged, at_seat, dealt_seats, dealt_shares, has_all, joined_seats, joined_shares, seats_behind, seats_stay, shares_behind, shares_set}
use Rattle.node_fleet.proofs.Knowing.{in_at, in_set, in_both, know_set, know_push, alone_for_all}
use Rattle.node_fleet.specs.declared.mailbox.MailStep.{MailStep}
use Rattle.node_fleet.specs.declared.mailbox.MailStep.TheVariants.{Posted, Collected}
use Rattle.node_fleet.specs.Views.{At}
use Rattle.node_fleet.specs.Mail.{Keeps, Knows, KnowAll, AreKept, IsMailbox, Posts, Collects, views_in}
use Rattle.node_fleet.proofs.Steps.{at_push, in_range, at_new, at_still, at_after, is_before, at_more, at_fewer}

-- a letter is posted
module _ (got items : List (Option ℕ)) (views : List (List MailStep)) (id : ℕ) (v : List MailStep) (x : Option ℕ) (kept : Keeps got items views) (here : get_elem? views id ≡ some v) where
  abbrev letters : List (Option ℕ)
  letters = got ++ items

  abbrev place : ℕ
  place = length letters

  abbrev step : MailStep
  step = Posted place x

  abbrev now : List (List MailStep)
  now = set views id (v ++ step ∷ [])

  grown : letters ++ x ∷ [] ≡ got ++ (items ++ x ∷ [])
  grown = append_assoc got items (x ∷ [])

  old_or_new : (p i : ℕ) (y : MailStep) → At now p i y → At views p i y ⊎ ((p ≡ id) × (i ≡ length v) × (step ≡ y))
  old_or_new p i y a = at_after views id v step here p i y a

  stands : (k : ℕ) (y : Option ℕ) → get_elem? (letters ++ x ∷ []) k ≡ some y → get_elem? (got ++ (items ++ x ∷ [])) k ≡ some y
  stands k y e = ap (λ l. get_elem? l k) (sym grown) ∙ e

  is_posted : (p i k : ℕ) (y : Option ℕ) → At now p i (Posted k y) → get_elem? (got ++ (items ++ x ∷ [])) k ≡ some y
  is_posted p i k y a =
      ⊎_elim
      (λ old. stands k y (at_longer letters (x ∷ []) k y (kept.posted p i k y old)))
      (λ (new : (p ≡ id) × (i ≡ length v) × (step ≡ Posted k y)).
      let is = new.2 in let same : x ≡ y = cc in let at : place ≡ k = cc in stands k y (at_last letters x k at ∙ ap some same))
      (old_or_new p i (Posted k y) a)

  is_posted_once : (p i q j k : ℕ) (y z : Option ℕ) → At now p i (Posted k y) → At now q j (Posted k z) → (p ≡ q) × (i ≡ j)
  is_posted_once p i q j k y z a b =
      ⊎_elim
      (λ old.
      ⊎_elim
      (λ old'. kept.posted_once p i q j k y z old old')
      (λ (new' : (q ≡ id) × (j ≡ length v) × (step ≡ Posted k z)). let is = new'.2 in let at : place ≡ k = cc in let lt = in_range letters k y (kept.posted p i k y old) in absurd (omega arith))
      (old_or_new q j (Posted k z) b))
      (λ (new : (p ≡ id) × (i ≡ length v) × (step ≡ Posted k y)).
      ⊎_elim
      (λ old'. let is = new.2 in let at : place ≡ k = cc in let lt = in_range letters k z (kept.posted q j k z old') in absurd (omega arith))
      (λ (new' : (q ≡ id) × (j ≡ length v) × (step ≡ Posted k z)). (new.0 ∙ sym new'.0, new.1 ∙ sym new'.1))
      (old_or_new q j (Posted k z) b))
      (old_or_new p i (Posted k y) a)

  each_is_posted : (k : ℕ) (y : Option ℕ) → get_elem? (got ++ (items ++ x ∷ [])) k ≡ some y → (p : ℕ) × (i : ℕ) × At now p i (Posted k y)
  each_is_posted k y e =
      ⊎_elim
      (λ old. let was = kept.each_posted k y old in (was.0, was.1, at_still views id v step here was.0 was.1 (Posted k y) was.2))
      (λ (new : (k ≡ length letters) × (x ≡ y)). (id, length v, subst (λ (u : MailStep). At now id (length v) u) (λ t. Posted (sym new.0 t) (new.1 t)) (at_new views id v step here)))
      (at_push letters x y k (ap (λ l. get_elem? l k) grown ∙ e))

  was_collected : (p i k : ℕ) (y : Option ℕ) → At now p i (Collected k y) → At views p i (Collected k y)
  was_collected p i k y a = ⊎_elim (λ old. old) (λ (new : (p ≡ id) × (i ≡ length v) × (step ≡ Collected k y)). let is = new.2 in absurd (cc)) (old_or_new p i (Collected k y) a)

  pub after_post : Keeps got (items ++ x ∷ []) now
  after_post = record {
    posted = is_posted;
    posted_once = is_posted_once;
    each_posted = each_is_posted;
    collected = λ p i k y a. kept.collected p i k y (was_collected p i k y a);
    collected_once = λ p i q j k y z a b. kept.collected_once p i q j k y z (was_collected p i k y a) (was_collected q j k z b);
    in_order = λ p i j k l y z lt a b. kept.in_order p i j k l y z lt (was_collected p i k y a) (was_collected p j l z b);
  }

-- the oldest letter is collected
module _ (got items : List (Option ℕ)) (views : List (List MailStep)) (id : ℕ) (v : List MailStep) (x : Option ℕ) (kept : Keeps got (x ∷ items) views) (here : get_elem? views id ≡ some v) where
  abbrev taken : MailStep
  taken = Collected (length got) x

  abbrev later : List (List MailStep)
  later = set views id (v ++ taken ∷ [])

  same : (got ++ x ∷ []) ++ items ≡ got ++ x ∷ items
  same = append_assoc got (x ∷ []) items

  before_or_now : (p i : ℕ) (y : MailStep) → At later p i y → At views p i y ⊎ ((p ≡ id) × (i ≡ length v) × (taken ≡ y))
  before_or_now p i y a = at_after views id v taken here p i y a

  was_posted : (p i k : ℕ) (y : Option ℕ) → At later p i (Posted k y) → At views p i (Posted k y)
  was_posted p i k y a = ⊎_elim (λ old. old) (λ (new : (p ≡ id) × (i ≡ length v) × (taken ≡ Posted k y)). let is = new.2 in absurd (cc)) (before_or_now p i (Posted k y) a)

  is_collected : (p i k : ℕ) (y : Option ℕ) → At later p i (Collected k y) → get_elem? (got ++ x ∷ []) k ≡ some y
  is_collected p i k y a =
      ⊎_elim
      (λ old. at_longer got (x ∷ []) k y (kept.collected p i k y old))
      (λ (new : (p ≡ id) × (i ≡ length v) × (taken ≡ Collected k y)). let is = new.2 in let one : x ≡ y = cc in let at : length got ≡ k = cc in at_last got x k at ∙ ap some one)
      (before_or_now p i (Collected k y) a)

  is_collected_once : (p i q j k : ℕ) (y z : Option ℕ) → At later p i (Collected k y) → At later q j (Collected k z) → (p ≡ q) × (i ≡ j)
  is_collected_once p i q j k y z a b =
      ⊎_elim
      (λ old.
      ⊎_elim
      (λ old'. kept.collected_once p i q j k y z old old')
      (λ (new' : (q ≡ id) × (j ≡ length v) × (taken ≡ Collected k z)). let is = new'.2 in let at : length got ≡ k = cc in let lt = in_range got k y (kept.collected p i k y old) in absurd (omega arith))
      (before_or_now q j (Collected k z) b))
      (λ (new : (p ≡ id) × (i ≡ length v) × (taken ≡ Collected k y)).
      ⊎_elim
      (λ old'. let is = new.2 in let at : length got ≡ k = cc in let lt = in_range got k z (kept.collected q j k z old') in absurd (omega arith))
      (λ (new' : (q ≡ id) × (j ≡ length v) × (taken ≡ Collected k z)). (new.0 ∙ sym new'.0, new.1 ∙ sym new'.1))
      (before_or_now q j (Collected k z) b))
      (before_or_now p i (Collected k y) a)

  is_in_order : (p i j k l : ℕ) (y z : Option ℕ) → i < j → At later p i (Collected k y) → At later p j (Collected l z) → k < l
  is_in_order p i j k l y z lt a b =
      ⊎_elim
      (λ old'.
      ⊎_elim
      (λ old. kept.in_order p i j k l y z lt old old')
      (λ (new : (p ≡ id) × (i ≡ length v) × (taken ≡ Collected k y)). let within = is_before views id v taken here j (Collected l z) (subst (λ (n : ℕ). At views n j (Collected l z)) new.0 old') in absurd (omega (arith, new.1)))
      (before_or_now p i (Collected k y) a))
      (λ (new' : (p ≡ id) × (j ≡ length v) × (taken ≡ Collected l z)).
      let is = new'.2 in let at : length got ≡ l = cc in
      ⊎_elim
      (λ old. let below = in_range got k y (kept.collected p i k y old) in omega arith)
      (λ (new : (p ≡ id) × (i ≡ length v) × (taken ≡ Collected k y)). absurd (omega (arith, new.1, new'.1)))
      (before_or_now p i (Collected k y) a))
      (before_or_now p j (Collected l z) b)

  pub after_collect : Keeps (got ++ x ∷ []) items later
  after_collect = record {
    posted = λ p i k y a. ap (λ l. get_elem? l k) same ∙ kept.posted p i k y (was_posted p i k y a);
    posted_once = λ p i q j k y z a b. kept.posted_once p i q j k y z (was_posted p i k y a) (was_posted q j k z b);
    each_posted = λ k y e. let was = kept.each_posted k y (ap (λ l. get_elem? l k) (sym same) ∙ e) in (was.0, was.1, at_still views id v taken here was.0 was.1 (Posted k y) was.2);
    collected = is_collected;
    collected_once = is_collected_once;
    in_order = is_in_order;
  }

-- a list of one seat
one_seat : (l : List (List MailStep)) → length l ≡ 1 → l ≡ first_of l ∷ []
one_seat [] e = absurd (omega arith)
one_seat (x ∷ []) e = refl
one_seat (x ∷ y ∷ l) e = absurd (omega arith)

module _ (id : ℕ) (m : Knows MailStep) (one : length m.1.1 ≡ 1) (views : List (Knows MailStep)) (here : get_elem? views id ≡ some m) where
  abbrev v : List MailStep
  v = first_of m.1.1

  alone : get_elem? (views_in views) id ≡ some (m.1.0, v ∷ [])
  alone = in_at views id m here ∙ ap (λ (l : List (List MailStep)). some (m.1.0, l)) (one_seat m.1.1 one)

  -- the view of one seat becomes that of one seat
  of_one : List MailStep → Knows MailStep
  of_one w = (m.0, (m.1.0, w ∷ []))

  still_knows : (w : List MailStep) → KnowAll (shares (views_in views)) views → KnowAll (shares (views_in (set views id (of_one w)))) (set views id (of_one w))
  unfolding of_one
  still_knows w know =
      let inner = views_in views in
      let is = in_set views id (of_one w) in
      let more = shares_set inner id m.1 (m.1.0, w ∷ []) (in_at views id m here) in
      let same : shares (views_in (set views id (of_one w))) ≡ shares inner = ap shares is ∙ omega (arith, more, one) in
      subst (λ (n : ℕ). KnowAll n (set views id (of_one w))) (sym same) (know_set (shares inner) views id (of_one w) know (λ some_seat. know id m here (omega (arith, one))))

-- a letter is posted by one seat
pub posts : (n id : ℕ) (m : Knows MailStep) (x : Option ℕ) → length m.1.1 ≡ 1 → Pushes IsMailbox n id m x (Posts m x)
unfolding of_one
posts n id m x one items views room h here =
    let v = first_of m.1.1 in
    let inner = views_in views in
    let at = at_seat inner id m.1.0 v (alone id m one views here) in
    let got = h.1.0 in
    let w = v ++ Posted (length (got ++ items)) x ∷ [] in
    let kept = after_post got items (seats_in inner) at.0 v x h.1.1 at.1 in
    let is = ap seats_in (in_set views id (of_one id m one views here w)) ∙ at.2 w in (
      (m.0, (m.1.0, w ∷ [])),
      (still_knows id m one views here w h.0, (got, subst (Keeps got (items ++ x ∷ [])) (sym is) kept)),
      (length (got ++ items), refl),
    )

-- the oldest letter is collected by one seat
pub collects : (id : ℕ) (m : Knows MailStep) → length m.1.1 ≡ 1 → Pops IsMailbox id m (Collects m)
unfolding of_one
collects id m one x items views h here =
    let v = first_of m.1.1 in
    let inner = views_in views in
    let at = at_seat inner id m.1.0 v (alone id m one views here) in
    let got = h.1.0 in
    let w = v ++ Collected (length got) x ∷ [] in
    let kept = after_collect got items (seats_in inner) at.0 v x h.1.1 at.1 in
    let is = ap seats_in (in_set views id (of_one id m one views here w)) ∙ at.2 w in (
      (m.0, (m.1.0, w ∷ [])),
      (still_knows id m one views here w h.0, (got ++ x ∷ [], subst (Keeps (got ++ x ∷ []) items) (sym is) kept)),
      (length got, refl, λ i k y e. in_range got k y (h.1.1.collected at.0 i k y (v, at.1, e))),
    )

-- one seat more, which has made no step
new_seat : (got items : List (Option ℕ)) (views : List (List MailStep)) → Keeps got items views → Keeps got items (views ++ [] ∷ [])
new_seat got items views h = record {
  posted = λ p i k y a. h.posted p i k y (at_more views p i (Posted k y) a);
  posted_once = λ p i q j k y z a b. h.posted_once p i q j k y z (at_more views p i (Posted k y) a) (at_more views q j (Posted k z) b);
  each_posted = λ k y e. let was = h.each_posted k y e in (was.0, was.1, at_fewer views was.0 was.1 (Posted k y) was.2);
  collected = λ p i k y a. h.collected p i k y (at_more views p i (Collected k y) a);
  collected_once = λ p i q j k y z a b. h.collected_once p i q j k y z (at_more views p i (Collected k y) a) (at_more views q j (Collected k z) b);
  in_order = λ p i j k l y z lt a b. h.in_order p i j k l y z lt (at_more views p i (Collected k y) a) (at_more views p j (Collected l z) b);
}

-- the order of the seats is nothing to the rule
in_any_order : (got items : List (Option ℕ)) (xs ys : List (List MailStep)) → Rearranged xs ys → Keeps got items xs → Keeps got items ys
in_any_order got items xs ys r h = record {
  posted = λ p i k y a. h.posted (r.from p) i k y (was p i (Posted k y) a);
  posted_once = λ p i q j k y z a b. let same = h.posted_once (r.from p) i (r.from q) j k y z (was p i (Posted k y) a) (was q j (Posted k z) b) in (one_place p q same.0, same.1);
  each_posted = λ k y e. let at = h.each_posted k y e in (r.to at.0, at.1, (at.2.0, r.is at.0 at.2.0 at.2.1, at.2.2));
  collected = λ p i k y a. h.collected (r.from p) i k y (was p i (Collected k y) a);
  collected_once = λ p i q j k y z a b. let same = h.collected_once (r.from p) i (r.from q) j k y z (was p i (Collected k y) a) (was q j (Collected k z) b) in (one_place p q same.0, same.1);
  in_order = λ p i j k l y z lt a b. h.in_order (r.from p) i j k l y z lt (was p i (Collected k y) a) (was p j (Collected l z) b);
}
  where
    was : (p i : ℕ) (s : MailStep) → At ys p i s → At xs (r.from p) i s
    was p i s a = (a.0, r.was p a.0 a.1, a.2)

    one_place : (p q : ℕ) → r.from p ≡ r.from q → p ≡ q
    one_place p q same = sym (r.once p) ∙ ap r.to same ∙ r.once q

-- there is one seat more, where one view stands for all
pub counts : (id : ℕ) (v : Knows MailStep) → v.0 ≡ share_of v.1 → 0 < v.0 → Forks IsMailbox id v (v.0 + 1, (v.1.0 + 1, v.1.1)) (0, (0, []))
counts id v all some_seat items views h here =
    let inner = views_in views in
    let there = in_at views id v here in
    let left : Knows MailStep = (v.0 + 1, (v.1.0 + 1, v.1.1)) in
    let right : Knows MailStep = (0, (0, [])) in
    let is = in_both views id left right in
    let known : v.0 ≡ shares inner = h.0 id v here (omega (arith, all, some_seat)) in
    let more : shares (views_in (set views id left ++ right ∷ [])) ≡ v.0 + 1 =
    ap shares is ∙ omega (arith, shares_behind (set inner id left.1) (right.1 ∷ []), shares_set inner id v.1 left.1 there, known, all) in
    let know = alone_for_all views id v left here (sym all ∙ known) (v.0 + 1) (λ _. refl) in
    let same : seats_in (views_in (set views id left ++ right ∷ [])) ≡ seats_in inner =
    ap seats_in is ∙ seats_behind (set inner id left.1) (right.1 ∷ []) ∙ append-nil (seats_in (set inner id left.1)) ∙ seats_stay inner id v.1 left.1 there refl in (
      subst (λ (n : ℕ). KnowAll n (set views id left ++ right ∷ [])) (sym more) (know_push (v.0 + 1) (set views id left) right know (λ e. absurd (omega (arith, e)))),
      (h.1.0, subst (Keeps h.1.0 items) (sym same) h.1.1),
    )

-- a seat is dealt
pub deals : (id : ℕ) (v : Knows MailStep) → 0 < v.1.0 → Forks IsMailbox id v (v.0, (v.1.0 - 1, v.1.1)) (v.0, (0, [] ∷ []))
deals id v some_left items views h here =
    let inner = views_in views in
    let there = in_at views id v here in
    let left : Knows MailStep = (v.0, (v.1.0 - 1, v.1.1)) in
    let right : Knows MailStep = (v.0, (0, [] ∷ [])) in
    let is = in_both views id left right in
    let known : v.0 ≡ shares inner = h.0 id v here (omega (arith, some_left)) in
    let same : shares (views_in (set views id left ++ right ∷ [])) ≡ shares inner = ap shares is ∙ dealt_shares inner id v.1 there some_left in
    let know = know_set (shares inner) views id left h.0 (λ _. known) in
    let seats : seats_in (views_in (set views id left ++ right ∷ [])) ≡ seats_in inner ++ [] ∷ [] = ap seats_in is ∙ dealt_seats inner id v.1 there in (
      subst (λ (n : ℕ). KnowAll n (set views id left ++ right ∷ [])) (sym same) (know_push (shares inner) (set views id left) right know (λ _. known)),
      (h.1.0, subst (Keeps h.1.0 items) (sym seats) (new_seat h.1.0 items (seats_in inner) h.1.1)),
    )

-- a seat is taken back
pub returns : (id : ℕ) (v : Knows MailStep) (other : ℕ) (w : Knows MailStep) → 0 < length v.1.1 → Merges IsMailbox id v other w (v.0, (v.1.0 + w.1.0, w.1.1 ++ v.1.1)) (0, (0, []))
returns id v other w some_seat items views h here apart there =
    let inner = views_in views in
    let both : Knows MailStep = (v.0, (v.1.0 + w.1.0, w.1.1 ++ v.1.1)) in
    let spent : Knows MailStep = (0, (0, [])) in
    let at = in_at views id v here in
    let taken = ap (λ l. get_elem? l other) (sym (in_set views id both)) ∙ in_at (set views id both) other w there in
    let is = in_set (set views id both) other spent ∙ ap (λ l. set l other spent.1) (in_set views id both) in
    let known : v.0 ≡ shares inner = h.0 id v here (omega (arith, some_seat)) in
    let same : shares (views_in (set (set views id both) other spent)) ≡ shares inner = ap shares is ∙ joined_shares inner id other v.1 w.1 at taken in
    let know = know_set (shares inner) (set views id both) other spent (know_set (shares inner) views id both h.0 (λ _. known)) (λ e. absurd (omega (arith, e))) in
    let kept = in_any_order h.1.0 items _ _ (joined_seats inner id other (v.1.0 + w.1.0) v.1 w.1 at apart taken) h.1.1 in (
      subst (λ (n : ℕ). KnowAll n (set (set views id both) other spent)) (sym same) know,
      (h.1.0, subst (Keeps h.1.0 items) (ap seats_in (sym is)) kept),
    )

pub learns : (id : ℕ) (v : Knows MailStep) → Learns IsMailbox id v (λ _. Unit {0})
learns id v items views h here = tt

-- a view that stands for all seats keeps the rule
pub ends : (id : ℕ) (v : Knows MailStep) → share_of v.1 ≡ v.0 → 0 < v.0 → Learns IsMailbox id v (λ _. AreKept v.1.1)
ends id v all some_seat items views h here =
    let known = h.0 id v here (omega (arith, all, some_seat)) in
    (h.1.0, items, subst (Keeps h.1.0 items) (has_all (views_in views) id v.1 (in_at views id v here) (sym known ∙ sym all)) h.1.1)

-- nobody has made a step
nothing : (p i : ℕ) (y : MailStep) → At ([] ∷ []) p i y → ⊥
nothing zero i y a = some-ne-none y (sym (ap (λ (l : List MailStep). get_elem? l i) (some-injective [] a.0 a.1) ∙ a.2))
nothing (suc p) i y a = some-ne-none a.0 (sym a.1)

pub begins : IsMailbox [] ((1, (0, [] ∷ [])) ∷ [])
begins = (
  know,
  (
    [],
    record {
      posted = λ p i k x a. absurd (nothing p i (Posted k x) a);
      posted_once = λ p i q j k x y a b. absurd (nothing p i (Posted k x) a);
      each_posted = λ k x e. absurd (some-ne-none x (sym e));
      collected = λ p i k x a. absurd (nothing p i (Collected k x) a);
      collected_once = λ p i q j k x y a b. absurd (nothing p i (Collected k x) a);
      in_order = λ p i j k l x y lt a b. absurd (nothing p i (Collected k x) a);
    },
  ),
)
  where
    know : KnowAll {A = MailStep} 1 ((1, (0, [] ∷ [])) ∷ [])
    know zero u e some_seat = ap (λ (k : Knows MailStep). k.0) (sym (some-injective (1, (0, [] ∷ [])) u e))
    know (suc p) u e some_seat = absurd (some-ne-none u (sym e))
