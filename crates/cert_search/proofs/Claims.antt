-- Each step keeps the rule of the deque.
use Rattle.std.proofs.Common.{◌≡◌, ◌≢◌, ◌⊎◌, ℕ, zero, suc, ◌+◌, ◌-◌, ◌<◌, ◌≤◌, zero-add, suc-add, List, [], ◌∷◌, ◌++◌, length, set, Bool, true, false, ◌||◌, true≢false, refl, sym, ap, ◌∙◌, subst, inl, inr, ⊎_elim, append_assoc, append-nil, arith, if◌then◌else◌}
use Rattle.std.proofs.Math.ListN.{length-set}
use mathlib.Core.Option.{some, some-ne-none, some-injective}
use mathlib.Core.Logic.{dite}
use native.Mathlib.Decide.{ℕ_discrete}
use lib.ListN.{get_elem?}
use Rattle.atomic_table.proofs.Lists.{at_longer, at_last, at_snoc, at_set, set_here, set_else}
use Rattle.crossbeam_deque.specs.Tasks.{Pushes, Takes, Forks, Merges, Learns}
use Rattle.cert_search.specs.declared.deque.DequeView.{DequeView}
use Rattle.cert_search.specs.declared.deque.Holder.{Holder}
use Rattle.cert_search.specs.declared.deque.Holder.TheVariants.{Owner, Guest, Nobody}
use Rattle.cert_search.specs.declared.deque.Task.{Task}
use Rattle.cert_search.specs.declared.deque.Task.TheVariants.{Claim, End}
use Rattle.cert_search.specs.Views.{At}
use Rattle.cert_search.specs.Deque.{first_view, guest_view, spent_view, lend, regain, is_owner, holders, dealt_more, closed, got_more, at_end, lent_view, both_views, got_of, counts, weight, Rises, marks_of, tasks_of, mark_of, marks_had, Keeps, NoMark, AreMarked, IsDeque, GetsClaim, Took, Adds, Settles}
use Rattle.cert_search.proofs.Steps.{at_push, in_range, each_after, at_still, at_new, at_after, at_same, at_kept, at_more, at_fewer}

-- the number of views that count, where one view changes
sum_set : (l : List DequeView) (i : ℕ) (x y : DequeView) → get_elem? l i ≡ some x → holders (set l i y) + weight x ≡ holders l + weight y
sum_set [] i x y e = absurd (some-ne-none x (sym e))
sum_set (z ∷ zs) zero x y e = let is = ap weight (some-injective z x e) in omega (arith, is)
sum_set (z ∷ zs) (suc i) x y e = let more = sum_set zs i x y e in omega (arith, more)

sum_least : (l : List DequeView) (i : ℕ) (x : DequeView) → get_elem? l i ≡ some x → weight x ≤ holders l
sum_least [] i x e = absurd (some-ne-none x (sym e))
sum_least (z ∷ zs) zero x e = let is = ap weight (some-injective z x e) in omega (arith, is)
sum_least (z ∷ zs) (suc i) x e = let more = sum_least zs i x e in omega (arith, more)

-- the marks that views may have had, where one view changes
marks_set : (l : List DequeView) (i : ℕ) (x y : DequeView) → get_elem? l i ≡ some x → marks_had (set l i y) + mark_of x ≡ marks_had l + mark_of y
marks_set [] i x y e = absurd (some-ne-none x (sym e))
marks_set (z ∷ zs) zero x y e = let is = ap mark_of (some-injective z x e) in omega (arith, is)
marks_set (z ∷ zs) (suc i) x y e = let more = marks_set zs i x y e in omega (arith, more)

marks_snoc : (l : List DequeView) (x : DequeView) → marks_had (l ++ x ∷ []) ≡ marks_had l + mark_of x
marks_snoc [] x = omega arith
marks_snoc (z ∷ zs) x = let more = marks_snoc zs x in omega (arith, more)

-- no mark is lost where one view changes
marked_still : (views : List DequeView) (id : ℕ) (v w : DequeView) (marks marks' : ℕ) → get_elem? views id ≡ some v → AreMarked marks views → marks + mark_of v ≤ marks' + mark_of w
    → (weight w ≡ 1 → (weight v ≡ 1) × (w.marks + (marks + mark_of v) ≤ v.marks + (marks' + mark_of w))) → AreMarked marks' (set views id w)
marked_still views id v w marks marks' here kept more mine p u e held =
    let even = marks_set views id v w here in
    ⊎_elim
    (λ (t : (p ≡ id) × (w ≡ u)).
    let m = mine (ap weight t.1 ∙ held) in
    let was = kept id v here m.0 in
    let same = ap (λ (y : DequeView). y.marks) t.1 in omega (arith, even, m.1, was, same))
    (λ (t : (p ≢ id) × (get_elem? views p ≡ some u)). let was = kept p u t.1 held in omega (arith, even, more, was))
    (at_set views id p w u e)

-- nor where another view comes
marked_snoc : (views : List DequeView) (x : DequeView) (marks : ℕ) → AreMarked marks views → (weight x ≡ 1 → x.marks ≤ marks + marks_had views) → AreMarked marks (views ++ x ∷ [])
marked_snoc views x marks kept mine p u e held =
    let more = marks_snoc views x in
    ⊎_elim
    (λ (old : get_elem? views p ≡ some u). let was = kept p u old held in omega (arith, more, was))
    (λ (is : x ≡ u). let was = mine (ap weight is ∙ held) in let same = ap (λ (y : DequeView). y.marks) is in omega (arith, more, was, same))
    (at_snoc views x u p e)

-- two views are no more than all
sum_two : (l : List DequeView) (i j : ℕ) (x y : DequeView) → i ≢ j → get_elem? l i ≡ some x → get_elem? l j ≡ some y → weight x + weight y ≤ holders l
sum_two [] i j x y apart e g = absurd (some-ne-none x (sym e))
sum_two (z ∷ zs) zero zero x y apart e g = absurd (apart refl)
sum_two (z ∷ zs) zero (suc j) x y apart e g = let is = ap weight (some-injective z x e) in let more = sum_least zs j y g in omega (arith, is, more)
sum_two (z ∷ zs) (suc i) zero x y apart e g = let is = ap weight (some-injective z y g) in let more = sum_least zs i x e in omega (arith, is, more)
sum_two (z ∷ zs) (suc i) (suc j) x y apart e g = let more = sum_two zs i j x y (λ same. apart (ap suc same)) e g in omega (arith, more)

sum_push : (l : List DequeView) (x : DequeView) → holders (l ++ x ∷ []) ≡ holders l + weight x
sum_push [] x = omega arith
sum_push (z ∷ zs) x = let more = sum_push zs x in omega (arith, more)

-- the worker whose deque it is
pub owner_out : (v : DequeView) → is_owner v.holder ≡ true → (out : ℕ) × (v.holder ≡ Owner out)
owner_out v owner = by_holder v.holder owner
  where
    by_holder : (h : Holder) → is_owner h ≡ true → (out : ℕ) × (h ≡ Owner out)
    by_holder (Owner out) e = (out, refl)
    by_holder Guest e = absurd (true≢false (sym e))
    by_holder Nobody e = absurd (true≢false (sym e))

pub owner_held : (v : DequeView) → is_owner v.holder ≡ true → weight v ≡ 1
owner_held v owner = ap counts (owner_out v owner).1

pub guest_held : (v : DequeView) → v.holder ≡ Guest → weight v ≡ 1
guest_held v guest = ap counts guest

-- one more mark of the end
marks_push : (n : ℕ) → marks_of n ++ End ∷ [] ≡ marks_of (suc n)
marks_push zero = refl
marks_push (suc n) = ap (λ l. End ∷ l) (marks_push n)

tasks_mark : (left : List ℕ) (n : ℕ) → tasks_of left n ++ End ∷ [] ≡ tasks_of left (suc n)
tasks_mark [] n = marks_push n
tasks_mark (x ∷ xs) n = ap (λ l. Claim x ∷ l) (tasks_mark xs n)

-- one more claim, where there is no mark
tasks_push : (left : List ℕ) (c : ℕ) → tasks_of left 0 ++ Claim c ∷ [] ≡ tasks_of (left ++ c ∷ []) 0
tasks_push [] c = refl
tasks_push (x ∷ xs) c = ap (λ l. Claim x ∷ l) (tasks_push xs c)

-- a claim at the front is the first that is left
front_claim : (left : List ℕ) (marks c : ℕ) (rest : List Task) → Claim c ∷ rest ≡ tasks_of left marks → (later : List ℕ) × (left ≡ c ∷ later) × (rest ≡ tasks_of later marks)
front_claim [] zero c rest e = absurd (cc)
front_claim [] (suc marks) c rest e = absurd (cc)
front_claim (x ∷ xs) marks c rest e = let same : c ≡ x = cc in (xs, ap (λ y. y ∷ xs) (sym same), cc)

-- and a mark at the front says that none is left
front_mark : (left : List ℕ) (marks : ℕ) (rest : List Task) → End ∷ rest ≡ tasks_of left marks → (m : ℕ) × (marks ≡ suc m) × (left ≡ []) × (rest ≡ tasks_of [] m)
front_mark [] zero rest e = absurd (cc)
front_mark [] (suc marks) rest e = (marks, refl, refl, cc)
front_mark (x ∷ xs) marks rest e = absurd (cc)

-- a growing list goes on growing
pub rises_push : (xs : List ℕ) (x : ℕ) → Rises xs → ((i y : ℕ) → get_elem? xs i ≡ some y → y < x) → Rises (xs ++ x ∷ [])
rises_push xs x grows below i j a b lt e f =
    ⊎_elim
    (λ (old' : get_elem? xs j ≡ some b).
    ⊎_elim
    (λ (old : get_elem? xs i ≡ some a). grows i j a b lt old old')
    (λ (new : (i ≡ length xs) × (x ≡ a)). let within = in_range xs j b old' in absurd (omega (arith, new.0)))
    (at_push xs x a i e))
    (λ (new' : (j ≡ length xs) × (x ≡ b)).
    ⊎_elim
    (λ (old : get_elem? xs i ≡ some a). subst (λ n. a < n) new'.1 (below i a old))
    (λ (new : (i ≡ length xs) × (x ≡ a)). absurd (omega (arith, new.0, new'.0)))
    (at_push xs x a i e))
    (at_push xs x b j f)

-- the claim at the front of the deque is above those that are gone
module _ (gone items : List ℕ) (x : ℕ) (rising : Rises (gone ++ x ∷ items)) where
  front_at : get_elem? (gone ++ x ∷ items) (length gone) ≡ some x
  front_at = ap (λ l. get_elem? l (length gone)) (sym (append_assoc gone (x ∷ []) items)) ∙ at_longer (gone ++ x ∷ []) items (length gone) x (at_last gone x (length gone) refl)

  pub above_gone : (k y : ℕ) → get_elem? gone k ≡ some y → y < x
  above_gone k y e = rising k (length gone) y x (in_range gone k y e) (at_longer gone (x ∷ items) k y e) front_at

-- what is gone stands before what is in the deque
pub at_behind : (gone items : List ℕ) (k x : ℕ) → get_elem? items k ≡ some x → get_elem? (gone ++ items) (length gone + k) ≡ some x
at_behind [] items k x e = rw zero-add e
at_behind (y ∷ gone) items k x e = rw suc-add (at_behind gone items k x e)

off : false ≡ true → ⊥
off e = true≢false (sym e)

-- the number of views that are out, as the worker knows it
abbrev Counted : List DequeView → Type 0
Counted views = (u : DequeView) (out : ℕ) → get_elem? views 0 ≡ some u → u.holder ≡ Owner out → holders views ≡ suc out

-- a view changes, whose holder stays
module _ (views : List DequeView) (id : ℕ) (v w : DequeView) (here : get_elem? views id ≡ some v) (holder : w.holder ≡ v.holder) where
  counted_still : Counted views → Counted (set views id w)
  counted_still counted u out e is =
      let even = sum_set views id v w here in
      let same = ap counts holder in
      let was : holders views ≡ suc out =
      ⊎_elim
      (λ (t : (0 ≡ id) × (w ≡ u)). counted v out (ap (get_elem? views) t.0 ∙ here) (sym holder ∙ ap (λ (y : DequeView). y.holder) t.1 ∙ is))
      (λ (t : (0 ≢ id) × (get_elem? views 0 ≡ some u)). counted u out t.1 is)
      (at_set views id 0 w u e) in
      omega (arith, even, same, was)

-- the first claim is taken
module _ (gone items : List ℕ) (x : ℕ) (views : List DequeView) (id : ℕ) (v : DequeView) (kept : Keeps gone (x ∷ items) views) (here : get_elem? views id ≡ some v) (held : weight v ≡ 1) where
  abbrev w : DequeView
  w = got_more v x

  abbrev now : List DequeView
  now = set views id w

  same : (gone ++ x ∷ []) ++ items ≡ gone ++ x ∷ items
  same = append_assoc gone (x ∷ []) items

  old_or_new : (p i c : ℕ) → At got_of now p i c → At got_of views p i c ⊎ ((p ≡ id) × (i ≡ length v.got) × (x ≡ c))
  old_or_new p i c a = at_after views id v w here got_of x refl p i c a

  was_before : (p i c : ℕ) → At got_of views p i c → c < x
  was_before p i c a = let g = kept.is_gone p i c a in above_gone gone items x kept.rising g.0 c g.1

  is_gone : (p i c : ℕ) → At got_of now p i c → (k : ℕ) × (get_elem? (gone ++ x ∷ []) k ≡ some c)
  is_gone p i c a =
      ⊎_elim
      (λ old. let g = kept.is_gone p i c old in (g.0, at_longer gone (x ∷ []) g.0 c g.1))
      (λ (new : (p ≡ id) × (i ≡ length v.got) × (x ≡ c)). (length gone, at_last gone x (length gone) refl ∙ ap some new.2))
      (old_or_new p i c a)

  once : (p i q j c : ℕ) → At got_of now p i c → At got_of now q j c → (p ≡ q) × (i ≡ j)
  once p i q j c a b =
      ⊎_elim
      (λ old.
      ⊎_elim
      (λ old'. kept.once p i q j c old old')
      (λ (new' : (q ≡ id) × (j ≡ length v.got) × (x ≡ c)). absurd (omega (arith, was_before p i c old, new'.2)))
      (old_or_new q j c b))
      (λ (new : (p ≡ id) × (i ≡ length v.got) × (x ≡ c)).
      ⊎_elim
      (λ old'. absurd (omega (arith, was_before q j c old', new.2)))
      (λ (new' : (q ≡ id) × (j ≡ length v.got) × (x ≡ c)). (new.0 ∙ sym new'.0, new.1 ∙ sym new'.1))
      (old_or_new q j c b))
      (old_or_new p i c a)

  mine_below : (i y : ℕ) → get_elem? v.got i ≡ some y → y < x
  mine_below i y e = was_before id i y (v, here, e)

  each_had : (k c : ℕ) → get_elem? (gone ++ x ∷ []) k ≡ some c → (p : ℕ) × (i : ℕ) × At got_of now p i c
  each_had k c e =
      ⊎_elim
      (λ old. let a = kept.each_had k c old in (a.0, a.1, at_still views id v w here got_of x refl a.0 a.1 c a.2))
      (λ (new : (k ≡ length gone) × (x ≡ c)). (id, length v.got, subst (λ n. At got_of now id (length v.got) n) new.1 (at_new views id v w here got_of x refl)))
      (at_push gone x c k e)

  -- there is a claim left, so nobody has had a mark
  no_end : (p : ℕ) (u : DequeView) → get_elem? views p ≡ some u → u.ended ≡ true → ⊥
  no_end p u e ended = let none = ap length (kept.ends p u e ended) in omega (arith, none)

  after_take : Keeps (gone ++ x ∷ []) items now
  after_take = record {
    rising = subst Rises (sym same) kept.rising;
    knows = each_after views id v w here (λ p u. weight u ≡ 1 → u.dealt ≡ (gone ++ x ∷ []) ++ items) (λ p u e holds. kept.knows p u e holds ∙ sym same) (λ _. kept.knows id v here held ∙ sym same);
    alone = λ p u e deals. length-set views id w ∙ each_after views id v w here (λ p u. u.deals ≡ true → length views ≡ 1) kept.alone (kept.alone id v here) p u e deals;
    is_gone = is_gone;
    once = once;
    each_had = each_had;
    ends = each_after views id v w here (λ p u. u.ended ≡ true → items ≡ []) (λ p u e ended. absurd (no_end p u e ended)) (λ ended. absurd (no_end id v here ended));
    spent = each_after views id v w here (λ p u. weight u ≡ 0 → u.got ≡ []) kept.spent (λ none. absurd (omega (arith, held, none)));
    counted = counted_still views id v w here refl kept.counted;
  }

  gets : GetsClaim v x w
  gets = (refl, (length gone, ap (λ l. get_elem? l (length gone)) (kept.knows id v here held) ∙ front_at gone items x kept.rising), mine_below)

-- a view changes in no claim
module _ (gone items : List ℕ) (views : List DequeView) (id : ℕ) (v w : DequeView) (kept : Keeps gone items views) (here : get_elem? views id ≡ some v)
    (got : w.got ≡ v.got) (dealt : w.dealt ≡ v.dealt) (holder : w.holder ≡ v.holder) (deals : w.deals ≡ true → v.deals ≡ true) (ended : w.ended ≡ true → items ≡ []) where
  abbrev calm : List DequeView
  calm = set views id w

  calm_was : (p i c : ℕ) → At got_of calm p i c → At got_of views p i c
  calm_was p i c a = at_same views id v w here got_of got p i c a

  after_still : Keeps gone items calm
  after_still = record {
    rising = kept.rising;
    knows = each_after views id v w here (λ p u. weight u ≡ 1 → u.dealt ≡ gone ++ items) kept.knows (λ held. dealt ∙ kept.knows id v here (ap counts (sym holder) ∙ held));
    alone = λ p u e may. length-set views id w ∙ each_after views id v w here (λ p u. u.deals ≡ true → length views ≡ 1) kept.alone (λ yes. kept.alone id v here (deals yes)) p u e may;
    is_gone = λ p i c a. kept.is_gone p i c (calm_was p i c a);
    once = λ p i q j c a b. kept.once p i q j c (calm_was p i c a) (calm_was q j c b);
    each_had = λ k c e. let a = kept.each_had k c e in (a.0, a.1, at_kept views id v w here got_of got a.0 a.1 c a.2);
    ends = each_after views id v w here (λ p u. u.ended ≡ true → items ≡ []) kept.ends ended;
    spent = each_after views id v w here (λ p u. weight u ≡ 0 → u.got ≡ []) kept.spent (λ none. got ∙ kept.spent id v here (ap counts (sym holder) ∙ none));
    counted = counted_still views id v w here holder kept.counted;
  }

-- marks and deals, where one view changes
still_marked : (views : List DequeView) (id : ℕ) (v w : DequeView) (marks marks' : ℕ) → get_elem? views id ≡ some v → NoMark marks views → (marks ≡ 0 → marks' ≡ 0) → (w.deals ≡ true → marks' ≡ 0) → NoMark marks' (set views id w)
still_marked views id v w marks marks' here none less mine = each_after views id v w here (λ p u. u.deals ≡ true → marks' ≡ 0) (λ p u e may. less (none p u e may)) mine

pub takes : (port : ℕ) (v : DequeView) → weight v ≡ 1 → v.ended ≡ false → Takes IsDeque port v 1 (Took v)
takes port v held unended [] tasks views some_task few h here = absurd (omega arith)
takes port v held unended (Claim x ∷ []) tasks views some_task few h here =
    let front = front_claim h.1 h.2 x tasks h.3 in
    let kept = subst (λ l. Keeps h.0 l views) front.1 h.5 in (
      got_more v x,
      (
        h.0 ++ x ∷ [],
        front.0,
        h.2,
        front.2,
        still_marked views port v (got_more v x) h.2 h.2 here h.4 (λ e. e) (h.4 port v here),
        after_take h.0 front.0 x views port v kept here held,
        marked_still views port v (got_more v x) h.2 h.2 here h.6 (omega arith) (λ _. (held, omega arith)),
      ),
      gets h.0 front.0 x views port v kept here held,
    )
takes port v held unended (End ∷ []) tasks views some_task few h here =
    let front = front_mark h.1 h.2 tasks h.3 in (
      at_end v,
      (
        h.0,
        [],
        front.0,
        front.3,
        still_marked views port v (at_end v) h.2 front.0 here h.4 (λ e. absurd (omega (arith, e, front.1))) (λ may. let e = h.4 port v here may in absurd (omega (arith, e, front.1))),
        after_still h.0 [] views port v (at_end v) (subst (λ l. Keeps h.0 l views) front.2 h.5) here refl refl refl (λ may. may) (λ _. refl),
        (let none : mark_of v ≡ 0 + (1 - weight v) = ap (λ (b : Bool). (if b then 1 else 0) + (1 - weight v)) unended in
            marked_still views port v (at_end v) h.2 front.0 here h.6 (omega (arith, none, front.1)) (λ _. (held, omega (arith, none, front.1)))),
      ),
      refl,
    )
takes port v held unended (x ∷ y ∷ ys) tasks views some_task few h here = absurd (omega arith)

-- a mark of the end is put in
pub closes : (port : ℕ) (v : DequeView) → Pushes IsDeque port v (End ∷ []) (λ w. w ≡ closed v)
closes port v tasks views h here = (
  closed v,
  (
    h.0,
    h.1,
    suc h.2,
    ap (λ l. l ++ End ∷ []) h.3 ∙ tasks_mark h.1 h.2,
    (λ p u e may. absurd (closed_alone p u e may)),
    after_still h.0 h.1 views port v (closed v) h.5 here refl refl refl (λ may. absurd (off may)) (h.5.ends port v here),
    marked_still views port v (closed v) h.2 (suc h.2) here h.6 (omega arith) (λ holds. (holds, omega arith)),
  ),
  refl,
)
  where
    -- whoever might still deal would be the only holder, which deals no more
    closed_alone : (p : ℕ) (u : DequeView) → get_elem? (set views port (closed v)) p ≡ some u → u.deals ≡ true → ⊥
    closed_alone p u e may =
        ⊎_elim
        (λ (t : (p ≡ port) × (closed v ≡ u)). off (ap (λ (y : DequeView). y.deals) t.1 ∙ may))
        (λ (t : (p ≢ port) × (get_elem? views p ≡ some u)).
        let one = h.5.alone p u t.1 may in let a = in_range views p u t.1 in let b = in_range views port v here in t.0 (omega (arith, one, a, b)))
        (at_set views port p (closed v) u e)

-- a claim is dealt
module _ (gone items : List ℕ) (x : ℕ) (views : List DequeView) (id : ℕ) (v : DequeView) (kept : Keeps gone items views) (here : get_elem? views id ≡ some v) (may : v.deals ≡ true) (held : weight v ≡ 1) (unended : v.ended ≡ false)
    (below : (i y : ℕ) → get_elem? v.dealt i ≡ some y → y < x) where
  abbrev dealer : DequeView
  dealer = dealt_more v x

  abbrev later : List DequeView
  later = set views id dealer

  grown : (gone ++ items) ++ x ∷ [] ≡ gone ++ (items ++ x ∷ [])
  grown = append_assoc gone items (x ∷ [])

  one : length views ≡ 1
  one = kept.alone id v here may

  nobody_else : (p : ℕ) (u : DequeView) → p ≢ id → get_elem? views p ≡ some u → ⊥
  nobody_else p u apart e = let a = in_range views p u e in let b = in_range views id v here in let l = one in apart (omega arith)

  was : (p i c : ℕ) → At got_of later p i c → At got_of views p i c
  was p i c a = at_same views id v dealer here got_of refl p i c a

  rising_now : Rises (gone ++ (items ++ x ∷ []))
  rising_now = subst Rises grown (rises_push (gone ++ items) x kept.rising (λ i y e. below i y (ap (λ l. get_elem? l i) (kept.knows id v here held) ∙ e)))

  each_later : (P : ℕ → DequeView → Type 0) → P id dealer → (p : ℕ) (u : DequeView) → get_elem? later p ≡ some u → P p u
  each_later P mine p u e =
      ⊎_elim
      (λ (t : (p ≡ id) × (dealer ≡ u)). subst (λ (y : ℕ × DequeView). P y.0 y.1) (λ i. (sym t.0 i, t.1 i)) mine)
      (λ (t : (p ≢ id) × (get_elem? views p ≡ some u)). absurd (nobody_else p u t.0 t.1))
      (at_set views id p dealer u e)

  after_deal : Keeps gone (items ++ x ∷ []) later
  after_deal = record {
    rising = rising_now;
    knows = each_later (λ p u. weight u ≡ 1 → u.dealt ≡ gone ++ (items ++ x ∷ [])) (λ _. ap (λ l. l ++ x ∷ []) (kept.knows id v here held) ∙ grown);
    alone = λ p u e deals. length-set views id dealer ∙ one;
    is_gone = λ p i c a. kept.is_gone p i c (was p i c a);
    once = λ p i q j c a b. kept.once p i q j c (was p i c a) (was q j c b);
    each_had = λ k c e. let a = kept.each_had k c e in (a.0, a.1, at_kept views id v dealer here got_of refl a.0 a.1 c a.2);
    ends = each_later (λ p u. u.ended ≡ true → items ++ x ∷ [] ≡ []) (λ ended. absurd (off (sym unended ∙ ended)));
    spent = each_later (λ p u. weight u ≡ 0 → u.got ≡ []) (λ none. absurd (omega (arith, held, none)));
    counted = counted_still views id v dealer here refl kept.counted;
  }

pub deals : (port : ℕ) (v : DequeView) (x : ℕ) → v.deals ≡ true → weight v ≡ 1 → v.ended ≡ false → ((i y : ℕ) → get_elem? v.dealt i ≡ some y → y < x) → Pushes IsDeque port v (Claim x ∷ []) (Adds v (Claim x ∷ []))
deals port v x may held unended below tasks views h here =
    let none : h.2 ≡ 0 = h.4 port v here may in
    let stands = h.3 ∙ ap (tasks_of h.1) none in (
      dealt_more v x,
      (
        h.0,
        h.1 ++ x ∷ [],
        0,
        ap (λ l. l ++ Claim x ∷ []) stands ∙ tasks_push h.1 x,
        (λ p u e yes. refl),
        after_deal h.0 h.1 x views port v h.5 here may held unended below,
        (let kept : AreMarked 0 views = λ p u e holds. let was = h.6 p u e holds in omega (arith, was, none) in marked_still views port v (dealt_more v x) 0 0 here kept (omega arith) (λ _. (held, omega arith))),
      ),
      refl,
    )

-- the worker deals no more, and another comes, who has had nothing
module _ (gone items : List ℕ) (views : List DequeView) (v : DequeView) (out : ℕ) (kept : Keeps gone items views) (here : get_elem? views 0 ≡ some v) (owner : v.holder ≡ Owner out) where
  abbrev left : DequeView
  left = lent_view v

  abbrev right : DequeView
  right = guest_view v.dealt v.marks

  abbrev two : List DequeView
  two = set views 0 left ++ right ∷ []

  lender_held : weight v ≡ 1
  lender_held = ap counts owner

  each_two : (P : ℕ → DequeView → Type 0) → ((p : ℕ) (u : DequeView) → p ≢ 0 → get_elem? views p ≡ some u → P p u) → P 0 left → ((p : ℕ) → P p right) → (p : ℕ) (u : DequeView) → get_elem? two p ≡ some u → P p u
  each_two P all mine new p u e =
      ⊎_elim
      (λ old.
      ⊎_elim
      (λ (t : (p ≡ 0) × (left ≡ u)). subst (λ (y : ℕ × DequeView). P y.0 y.1) (λ i. (sym t.0 i, t.1 i)) mine)
      (λ (t : (p ≢ 0) × (get_elem? views p ≡ some u)). all p u t.0 t.1)
      (at_set views 0 p left u old))
      (λ (is : right ≡ u). subst (λ (y : DequeView). P p y) is (new p))
      (at_snoc (set views 0 left) right u p e)

  was_got : (p i c : ℕ) → At got_of two p i c → At got_of views p i c
  was_got p i c a = at_same views 0 v left here got_of refl p i c (at_more got_of (set views 0 left) right refl p i c a)

  lent_out : lend v.holder ≡ Owner (suc out)
  lent_out = ap lend owner

  two_sum : holders two ≡ suc (suc out)
  two_sum =
      let even = sum_set views 0 v left here in
      let more = sum_push (set views 0 left) right in
      let was = kept.counted v out here owner in
      let mine : counts (lend v.holder) ≡ 1 = ap counts lent_out in
      let held = lender_held in
      omega (arith, even, more, was, mine, held)

  after_enter : Keeps gone items two
  after_enter = record {
    rising = kept.rising;
    knows = each_two (λ p u. weight u ≡ 1 → u.dealt ≡ gone ++ items) (λ p u _ e. kept.knows p u e) (λ _. kept.knows 0 v here lender_held) (λ p _. kept.knows 0 v here lender_held);
    alone = λ p u e deals. absurd (each_two (λ q y. y.deals ≡ true → ⊥)
        (λ q y apart f true_. let l = kept.alone q y f true_ in let a = in_range views q y f in let b = in_range views 0 v here in apart (omega arith))
        off (λ q. off) p u e deals);
    is_gone = λ p i c a. kept.is_gone p i c (was_got p i c a);
    once = λ p i q j c a b. kept.once p i q j c (was_got p i c a) (was_got q j c b);
    each_had = λ k c e. let a = kept.each_had k c e in (a.0, a.1, at_fewer got_of (set views 0 left) right refl a.0 a.1 c (at_kept views 0 v left here got_of refl a.0 a.1 c a.2));
    ends = each_two (λ p u. u.ended ≡ true → items ≡ []) (λ p u _ e. kept.ends p u e) (kept.ends 0 v here) (λ p ended. absurd (off ended));
    spent = each_two (λ p u. weight u ≡ 0 → u.got ≡ []) (λ p u _ e. kept.spent p u e) (λ none. let some_ : counts (lend v.holder) ≡ 1 = ap counts lent_out in absurd (omega (arith, some_, none))) (λ p _. refl);
    counted = λ u n e is. each_two (λ p y. p ≡ 0 → y.holder ≡ Owner n → holders two ≡ suc n)
        (λ p y apart f zero_ owns. absurd (apart zero_))
        (λ zero_ owns. let same : suc out ≡ n = cc (lent_out, owns) in two_sum ∙ ap suc same)
        (λ p zero_ owns. absurd (cc (owns))) 0 u e refl is;
  }

  marked_two : (marks : ℕ) → AreMarked marks views → AreMarked marks two
  marked_two marks kept =
      let mine : counts (lend v.holder) ≡ 1 = ap counts lent_out in
      let held = lender_held in
      let lent = marked_still views 0 v left marks marks here kept (omega (arith, mine, held)) (λ _. (held, omega (arith, mine, held))) in
      let there : get_elem? (set views 0 left) 0 ≡ some left = set_here views 0 left (in_range views 0 v here) in
      marked_snoc (set views 0 left) right marks lent (λ _. lent 0 left there mine)

pub enters : (port : ℕ) (v : DequeView) (out : ℕ) → port ≡ 0 → v.holder ≡ Owner out → Forks IsDeque port v (lent_view v) (guest_view v.dealt v.marks)
enters port v out first owner tasks views h here =
    let here0 = ap (get_elem? views) (sym first) ∙ here in
    subst (λ n. IsDeque tasks (set views n (lent_view v) ++ guest_view v.dealt v.marks ∷ [])) (sym first) (
      h.0,
      h.1,
      h.2,
      h.3,
      each_two h.0 h.1 views v out h.5 here0 owner (λ p u. u.deals ≡ true → h.2 ≡ 0) (λ p u _ e. h.4 p u e) (λ may. absurd (off may)) (λ p may. absurd (off may)),
      after_enter h.0 h.1 views v out h.5 here0 owner,
      marked_two h.0 h.1 views v out h.5 here0 owner h.2 h.6,
    )

-- what stands in two lists on end
pub at_either : {A : Type 0} (l m : List A) (i : ℕ) (b : A) → get_elem? (l ++ m) i ≡ some b → (get_elem? l i ≡ some b) ⊎ ((k : ℕ) × (i ≡ length l + k) × (get_elem? m k ≡ some b))
at_either [] m i b e = inr (i, (let is : i ≡ 0 + i = omega arith in is), e)
at_either (x ∷ xs) m zero b e = inl e
at_either (x ∷ xs) m (suc i) b e = ⊎_elim (λ t. inl t) (λ t. let is = t.1 in inr (t.0, omega (arith, is), t.2)) (at_either xs m i b e)

either_true : (a b : Bool) → (a || b) ≡ true → (a ≡ true) ⊎ (b ≡ true)
either_true true b e = inl refl
either_true false b e = inr e

more_ended : (a b : Bool) → (if a then 1 else 0) ≤ (if a || b then 1 else 0)
more_ended true b = omega arith
more_ended false b = omega arith

at_most_one : (a : Bool) → (if a then 1 else 0) ≤ 1
at_most_one true = omega arith
at_most_one false = omega arith

-- the worker takes another's view back
module _ (gone items : List ℕ) (views : List DequeView) (v : DequeView) (other : ℕ) (w : DequeView) (out : ℕ) (kept : Keeps gone items views) (here : get_elem? views 0 ≡ some v) (apart : other ≢ 0) (there : get_elem? views other ≡ some w) (owner : v.holder ≡ Owner (suc out)) (guest : w.holder ≡ Guest) where
  abbrev both : DequeView
  both = both_views v w

  abbrev first : List DequeView
  first = set views 0 both

  abbrev merged : List DequeView
  merged = set first other spent_view

  there_first : get_elem? first other ≡ some w
  there_first = set_else views 0 other both apart ∙ there

  here_merged : get_elem? merged 0 ≡ some both
  here_merged = set_else first other 0 spent_view (λ e. apart (sym e)) ∙ set_here views 0 both (in_range views 0 v here)

  regained : regain v.holder ≡ Owner out
  regained = ap regain owner

  each_merged : (P : ℕ → DequeView → Type 0) → ((p : ℕ) (u : DequeView) → p ≢ 0 → get_elem? views p ≡ some u → P p u) → P 0 both → ((p : ℕ) → p ≢ 0 → P p spent_view) → (p : ℕ) (u : DequeView) → get_elem? merged p ≡ some u → P p u
  each_merged P all mine gone_ p u e =
      ⊎_elim
      (λ (t : (p ≡ other) × (spent_view ≡ u)). subst (λ (y : DequeView). P p y) t.1 (gone_ p (λ z. apart (sym t.0 ∙ z))))
      (λ (t : (p ≢ other) × (get_elem? first p ≡ some u)).
      ⊎_elim
      (λ (s : (p ≡ 0) × (both ≡ u)). subst (λ (y : ℕ × DequeView). P y.0 y.1) (λ i. (sym s.0 i, s.1 i)) mine)
      (λ (s : (p ≢ 0) × (get_elem? views p ≡ some u)). all p u s.0 s.1)
      (at_set views 0 p both u t.1))
      (at_set first other p spent_view u e)

  -- where a claim stood that stands in a view now
  abbrev Source : ℕ → ℕ → ℕ → Type 0
  Source p i c = ((p ≢ other) × At got_of views p i c) ⊎ ((p ≡ 0) × ((m : ℕ) × (i ≡ length v.got + m) × At got_of views other m c))

  source : (p i c : ℕ) → At got_of merged p i c → Source p i c
  source p i c a =
      ⊎_elim
      (λ (t : (p ≡ other) × (spent_view ≡ a.0)). absurd (some-ne-none c (sym (ap (λ (y : DequeView). get_elem? y.got i) t.1 ∙ a.2))))
      (λ (t : (p ≢ other) × (get_elem? first p ≡ some a.0)).
      ⊎_elim
      (λ (s : (p ≡ 0) × (both ≡ a.0)).
      ⊎_elim
      (λ (old : get_elem? v.got i ≡ some c). inl (t.0, (v, ap (get_elem? views) s.0 ∙ here, old)))
      (λ (new : (k : ℕ) × (i ≡ length v.got + k) × (get_elem? w.got k ≡ some c)). inr (s.0, (new.0, new.1, (w, there, new.2))))
      (at_either v.got w.got i c (ap (λ (y : DequeView). get_elem? y.got i) s.1 ∙ a.2)))
      (λ (s : (p ≢ 0) × (get_elem? views p ≡ some a.0)). inl (t.0, (a.0, s.1, a.2)))
      (at_set views 0 p both a.0 t.1))
      (at_set first other p spent_view a.0 a.1)

  merged_gone : (p i c : ℕ) → At got_of merged p i c → (k : ℕ) × (get_elem? gone k ≡ some c)
  merged_gone p i c a =
      ⊎_elim
      (λ (t : (p ≢ other) × At got_of views p i c). kept.is_gone p i c t.1)
      (λ (t : (p ≡ 0) × ((m : ℕ) × (i ≡ length v.got + m) × At got_of views other m c)). kept.is_gone other t.1.0 c t.1.2)
      (source p i c a)

  merged_once : (p i q j c : ℕ) → At got_of merged p i c → At got_of merged q j c → (p ≡ q) × (i ≡ j)
  merged_once p i q j c a b =
      ⊎_elim
      (λ (s : (p ≢ other) × At got_of views p i c).
      ⊎_elim
      (λ (t : (q ≢ other) × At got_of views q j c). kept.once p i q j c s.1 t.1)
      (λ (t : (q ≡ 0) × ((m : ℕ) × (j ≡ length v.got + m) × At got_of views other m c)). absurd (s.0 ((kept.once p i other t.1.0 c s.1 t.1.2).0)))
      (source q j c b))
      (λ (s : (p ≡ 0) × ((m : ℕ) × (i ≡ length v.got + m) × At got_of views other m c)).
      ⊎_elim
      (λ (t : (q ≢ other) × At got_of views q j c). absurd (t.0 (sym (kept.once other s.1.0 q j c s.1.2 t.1).0)))
      (λ (t : (q ≡ 0) × ((m : ℕ) × (j ≡ length v.got + m) × At got_of views other m c)).
      let same = (kept.once other s.1.0 other t.1.0 c s.1.2 t.1.2).1 in (s.0 ∙ sym t.0, omega (arith, same, s.1.1, t.1.1)))
      (source q j c b))
      (source p i c a)

  merged_had : (p i c : ℕ) → At got_of views p i c → (q : ℕ) × (j : ℕ) × At got_of merged q j c
  merged_had p i c a =
      dite (ℕ_discrete p other)
      (λ (is : p ≡ other).
      let same : a.0 ≡ w = some-injective a.0 w (sym a.1 ∙ ap (get_elem? views) is ∙ there) in
      (0, length v.got + i, (both, here_merged, at_behind v.got w.got i c (ap (λ (y : DequeView). get_elem? y.got i) (sym same) ∙ a.2))))
      (λ (not_other : p ≢ other).
      dite (ℕ_discrete p 0)
      (λ (is : p ≡ 0).
      let same : a.0 ≡ v = some-injective a.0 v (sym a.1 ∙ ap (get_elem? views) is ∙ here) in
      (0, i, (both, here_merged, at_longer v.got w.got i c (ap (λ (y : DequeView). get_elem? y.got i) (sym same) ∙ a.2))))
      (λ (not_first : p ≢ 0). (p, i, (a.0, set_else first other p spent_view not_other ∙ set_else views 0 p both not_first ∙ a.1, a.2))))

  merged_sum : holders merged ≡ suc out
  merged_sum =
      let even = sum_set views 0 v both here in
      let even' = sum_set first other w spent_view there_first in
      let was = kept.counted v (suc out) here owner in
      let mine : counts (regain v.holder) ≡ 1 = ap counts regained in
      let mine' : counts v.holder ≡ 1 = ap counts owner in
      let theirs : counts w.holder ≡ 1 = ap counts guest in
      omega (arith, even, even', was, mine, mine', theirs)

  after_merge : Keeps gone items merged
  after_merge = record {
    rising = kept.rising;
    knows = each_merged (λ p u. weight u ≡ 1 → u.dealt ≡ gone ++ items) (λ p u _ e. kept.knows p u e) (λ _. kept.knows 0 v here (ap counts owner)) (λ p _ held. absurd (omega (arith, held)));
    alone = λ p u e deals. length-set first other spent_view ∙ length-set views 0 both ∙ each_merged (λ q y. y.deals ≡ true → length views ≡ 1) (λ q y _ f. kept.alone q y f) (kept.alone 0 v here) (λ q _ may. absurd (off may)) p u e deals;
    is_gone = merged_gone;
    once = merged_once;
    each_had = λ k c e. let a = kept.each_had k c e in merged_had a.0 a.1 c a.2;
    ends = each_merged (λ p u. u.ended ≡ true → items ≡ []) (λ p u _ e. kept.ends p u e) (λ ended. ⊎_elim (kept.ends 0 v here) (kept.ends other w there) (either_true v.ended w.ended ended)) (λ p _ ended. absurd (off ended));
    spent = each_merged (λ p u. weight u ≡ 0 → u.got ≡ []) (λ p u _ e. kept.spent p u e) (λ none. let some_ : counts (regain v.holder) ≡ 1 = ap counts regained in absurd (omega (arith, some_, none))) (λ p _ _. refl);
    counted = λ u n e is. each_merged (λ p y. p ≡ 0 → y.holder ≡ Owner n → holders merged ≡ suc n)
        (λ p y not_first f zero_ owns. absurd (not_first zero_))
        (λ zero_ owns. let same : out ≡ n = cc (regained, owns) in merged_sum ∙ ap suc same)
        (λ p not_first zero_ owns. absurd (not_first zero_)) 0 u e refl is;
  }

  marked_merged : (marks : ℕ) → AreMarked marks views → AreMarked marks merged
  marked_merged marks kept =
      let mine : counts v.holder ≡ 1 = ap counts owner in
      let mine' : counts (regain v.holder) ≡ 1 = ap counts regained in
      let theirs : counts w.holder ≡ 1 = ap counts guest in
      let more : (if v.ended then 1 else 0) ≤ (if v.ended || w.ended then 1 else 0) = more_ended v.ended w.ended in
      let one : (if w.ended then 1 else 0) ≤ 1 = at_most_one w.ended in
      let taken = marked_still views 0 v both marks marks here kept (omega (arith, mine, mine', more)) (λ _. (mine, omega (arith, mine, mine', more))) in
      marked_still first other w spent_view marks marks there_first taken (omega (arith, theirs, one)) (λ none. absurd (omega (arith, none)))

pub merges : (port : ℕ) (v : DequeView) (other : ℕ) (w : DequeView) (known : ℕ) → port ≡ 0 → v.holder ≡ Owner known → w.holder ≡ Guest → Merges IsDeque port v other w (both_views v w) spent_view
merges port v other w known zero_ knows guest tasks views h here apart there =
    let here0 = ap (get_elem? views) (sym zero_) ∙ here in
    let apart0 : other ≢ 0 = λ e. apart (e ∙ sym zero_) in
    let there0 = sym (set_else views port other (both_views v w) apart) ∙ there in
    let one = h.5.counted v known here0 knows in
    let two = sum_two views other 0 w v apart0 there0 here0 in
    let mine : counts v.holder ≡ 1 = ap counts knows in
    let theirs : counts w.holder ≡ 1 = ap counts guest in
    let out : ℕ = known - 1 in
    let more : known ≡ suc out = omega (arith, one, two, mine, theirs) in
    let owner : v.holder ≡ Owner (suc out) = knows ∙ ap Owner more in
    subst (λ n. IsDeque tasks (set (set views n (both_views v w)) other spent_view)) (sym zero_) (
      h.0,
      h.1,
      h.2,
      h.3,
      each_merged h.0 h.1 views v other w out h.5 here0 apart0 there0 owner guest (λ p u. u.deals ≡ true → h.2 ≡ 0) (λ p u _ e. h.4 p u e) (h.4 0 v here0) (λ p _ may. absurd (off may)),
      after_merge h.0 h.1 views v other w out h.5 here0 apart0 there0 owner guest,
      marked_merged h.0 h.1 views v other w out h.5 here0 apart0 there0 owner guest h.2 h.6,
    )

-- what the worker learns
pub learns : (port : ℕ) (v : DequeView) → port ≡ 0 → weight v ≡ 1 → Learns IsDeque port v (λ tasks. Settles v)
learns port v first held tasks views h here = record {
  once = λ i j c e f. (kept.once port i port j c (v, here, e) (v, here, f)).1;
  dealt = λ i c e. let g = kept.is_gone port i c (v, here, e) in (g.0, ap (λ l. get_elem? l g.0) (kept.knows port v here held) ∙ at_longer h.0 h.1 g.0 c g.1);
  all_had = λ owner ended k c e.
      let none = kept.ends port v here ended in
      let in_gone : get_elem? h.0 k ≡ some c = ap (λ l. get_elem? l k) (sym (append-nil h.0) ∙ ap (λ l. h.0 ++ l) (sym none) ∙ sym (kept.knows port v here held)) ∙ e in
      let a = kept.each_had k c in_gone in
      let one = kept.counted v 0 (ap (get_elem? views) (sym first) ∙ here) owner in
      dite (ℕ_discrete a.0 port)
      (λ (is : a.0 ≡ port).
      let same : a.2.0 ≡ v = some-injective a.2.0 v (sym a.2.1 ∙ ap (get_elem? views) is ∙ here) in
      (a.1, ap (λ (y : DequeView). get_elem? y.got a.1) (sym same) ∙ a.2.2))
      (λ (apart : a.0 ≢ port).
      let two = sum_two views a.0 port a.2.0 v apart a.2.1 here in
      let idle : a.2.0.got ≡ [] = kept.spent a.0 a.2.0 a.2.1 (omega (arith, two, one, held)) in
      absurd (some-ne-none c (sym (ap (λ l. get_elem? l a.1) (sym idle) ∙ a.2.2))));
}
  where
    kept : Keeps h.0 h.1 views
    kept = h.5

-- a new deque
pub begins : IsDeque [] (first_view ∷ [])
begins = (
  [],
  [],
  0,
  refl,
  (λ p u e may. refl),
  record {
    rising = λ i j x y lt e f. absurd (some-ne-none x (sym e));
    knows = λ p u e held. ap (λ (y : DequeView). y.dealt) (sym (only p u e));
    alone = λ p u e deals. refl;
    is_gone = λ p i c a. absurd (nothing p i c a);
    once = λ p i q j c a b. absurd (nothing p i c a);
    each_had = λ k c e. absurd (some-ne-none c (sym e));
    ends = λ p u e ended. refl;
    spent = λ p u e none. ap (λ (y : DequeView). y.got) (sym (only p u e));
    counted = λ u out e is. let first = ap (λ (y : DequeView). y.holder) (only 0 u e) in let same : 0 ≡ out = cc (first, is) in ap suc same;
  },
  (λ p u e held. let same = ap (λ (y : DequeView). y.marks) (only p u e) in omega (arith, same)),
)
  where
    only : (p : ℕ) (u : DequeView) → get_elem? (first_view ∷ []) p ≡ some u → first_view ≡ u
    only zero u e = some-injective first_view u e
    only (suc p) u e = absurd (some-ne-none u (sym e))

    nothing : (p i c : ℕ) → At got_of (first_view ∷ []) p i c → ⊥
    nothing p i c a = some-ne-none c (sym (ap (λ (y : DequeView). get_elem? y.got i) (only p a.0 a.1) ∙ a.2))
