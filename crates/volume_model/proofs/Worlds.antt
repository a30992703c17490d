-- The world after the entries of a journal, and an actor in it.
use Rattle.std.proofs.Common.{◌≡◌, ◌⊎◌, ℕ, zero, suc, ◌+◌, ◌<◌, ◌≤◌, List, [], ◌∷◌, ◌++◌, length, take, map, true, false, Some, refl, sym, ap, ◌∙◌, subst, inl, inr, ⊎_elim, arith, if◌then◌else◌, slice_get}
use mathlib.Core.List.{IsPrefix}
use Rattle.volume_model.specs.Common.{Plan, World, opening, after, run, Actor, actor_of, same_actor, Agree, Keeps, events, world_at, last_from, last_of, Goes, IsRun, before}
use Rattle.volume_model.specs.Journal.{Entry}
use Rattle.volume_model.proofs.ListFacts.{by_test, get_within, beginning-refl, beginning-trans}
use Rattle.volume_model.proofs.Frames.{frame, agree-refl, agree-trans}
use Rattle.volume_model.proofs.Growing.{messages_grow, keeps_after}
use Rattle.volume_model.proofs.Fronts.{prefix_get, prefix_shorter}
use Rattle.std.proofs.lemmas.Grind.{common_steps}

pub last_from-append : (actor : Actor) (n at : ℕ) (es fs : List Entry) → last_from actor n at (es ++ fs) ≡ last_from actor (last_from actor n at es) (at + length es) fs
last_from-append actor n at [] fs = ap (λ k. last_from actor n k fs) (omega arith)
last_from-append actor n at (e ∷ es) fs =
    let m = if same_actor (actor_of e.event) actor then suc at else n in
    last_from-append actor m (suc at) es fs ∙ ap (λ k. last_from actor (last_from actor m (suc at) es) k fs) (omega arith)

pub last_of-push : (actor : Actor) (es : List Entry) (e : Entry) → last_of actor (es ++ e ∷ []) ≡ (if same_actor (actor_of e.event) actor then suc (length es) else last_of actor es)
last_of-push actor es e = last_from-append actor 0 0 es (e ∷ []) ∙ ap (λ k. last_from actor (last_of actor es) k (e ∷ [])) (omega arith)

pub last_at_most : (actor : Actor) (n at : ℕ) (es : List Entry) → n ≤ at → last_from actor n at es ≤ at + length es
last_at_most actor n at [] le = omega arith
last_at_most actor n at (e ∷ es) le = grind (arith, common_steps, by_test, (last_at_most actor (suc at) (suc at) es (omega arith)), (last_at_most actor n (suc at) es (omega arith)))

pub last_at_least : (actor : Actor) (n at : ℕ) (es : List Entry) → n ≤ at → n ≤ last_from actor n at es
last_at_least actor n at [] le = omega arith
last_at_least actor n at (e ∷ es) le = grind (arith, common_steps, by_test, (last_at_least actor (suc at) (suc at) es (omega arith)), (last_at_least actor n (suc at) es (omega arith)))

-- an entry of the actor is not after its last one
pub last_covers : (actor : Actor) (n at : ℕ) (es : List Entry) (k : ℕ) (e : Entry) → n ≤ at → slice_get es k ≡ Some e → same_actor (actor_of e.event) actor ≡ true → suc (at + k) ≤ last_from actor n at es
last_covers actor n at [] k e le at_k same = absurd (cc)
last_covers actor n at (x ∷ es) zero e le at_k same = grind (arith, common_steps, last_at_least)
last_covers actor n at (x ∷ es) (suc k) e le at_k same = grind (arith, common_steps, by_test, (last_covers actor (suc at) (suc at) es k e (omega arith) at_k same), (last_covers actor n (suc at) es k e (omega arith) at_k same))

module _ {A : Type 0} where
  pub take_prefix : (xs ys : List A) (k : ℕ) → IsPrefix xs ys → k ≤ length xs → take k xs ≡ take k ys
  take_prefix xs ys zero p le = refl
  take_prefix [] ys (suc k) p le = absurd (omega arith)
  take_prefix (x ∷ xs) [] (suc k) p le = absurd (cc (p.1))
  take_prefix (x ∷ xs) (y ∷ ys) (suc k) p le = grind (arith, common_steps)

  pub take_long : (xs ys : List A) → IsPrefix xs ys → take (length xs) ys ≡ xs
  take_long [] ys p = refl
  take_long (x ∷ xs) [] p = absurd (cc (p.1))
  take_long (x ∷ xs) (y ∷ ys) p = grind (arith, common_steps)

  pub get_last : (xs : List A) (y : A) → slice_get (xs ++ y ∷ []) (length xs) ≡ Some y
  get_last [] y = refl
  get_last (x ∷ xs) y = get_last xs y

  pub get_push : (xs : List A) (y m : A) (a : ℕ) → slice_get (xs ++ y ∷ []) a ≡ Some m → ((a < length xs) × (slice_get xs a ≡ Some m)) ⊎ ((a ≡ length xs) × (y ≡ m))
  get_push [] y m zero e = inr (refl, cc)
  get_push [] y m (suc a) e = absurd (cc)
  get_push (x ∷ xs) y m zero e = inl (omega arith, e)
  get_push (x ∷ xs) y m (suc a) e = ⊎_elim (λ t. let lt = t.0 in inl (omega arith, t.1)) (λ t. inr (ap suc t.0, t.1)) (get_push xs y m a e)

  -- one more of a beginning
  pub take_more : (xs : List A) (k : ℕ) (x : A) → slice_get xs k ≡ Some x → take (suc k) xs ≡ take k xs ++ x ∷ []
  take_more [] k e h = absurd (cc)
  take_more (x ∷ xs) zero e h = let is : x ≡ e = cc in ap (λ (y : A). y ∷ []) is
  take_more (x ∷ xs) (suc k) e h = ap (λ (l : List A). x ∷ l) (take_more xs k e h)

  pub take_begins : (xs : List A) (k : ℕ) → IsPrefix (take k xs) xs
  take_begins xs zero = (xs, refl)
  take_begins [] (suc k) = ([], refl)
  take_begins (x ∷ xs) (suc k) = let r = take_begins xs k in (r.0, ap (λ (l : List A). x ∷ l) r.1)

  pub take_rest : (xs : List A) (k : ℕ) → length xs ≤ k → take k xs ≡ xs
  take_rest [] zero le = refl
  take_rest [] (suc k) le = refl
  take_rest (x ∷ xs) zero le = absurd (omega arith)
  take_rest (x ∷ xs) (suc k) le = ap (λ (l : List A). x ∷ l) (take_rest xs k (omega arith))

  pub length-take_within : (xs : List A) (k : ℕ) → k ≤ length xs → length (take k xs) ≡ k
  length-take_within xs zero le = refl
  length-take_within [] (suc k) le = absurd (omega arith)
  length-take_within (x ∷ xs) (suc k) le = ap suc (length-take_within xs k (omega arith))

  -- a beginning of a beginning
  pub take_prefixes : (xs : List A) (j k : ℕ) → j ≤ k → IsPrefix (take j xs) (take k xs)
  take_prefixes xs zero k le = (take k xs, refl)
  take_prefixes xs (suc j) zero le = absurd (omega arith)
  take_prefixes [] (suc j) (suc k) le = ([], refl)
  take_prefixes (x ∷ xs) (suc j) (suc k) le = let r = take_prefixes xs j k (omega arith) in (r.0, ap (λ (l : List A). x ∷ l) r.1)

module _ (plan : Plan) where
  pub run-append : (w : World) (es fs : List Entry) → run plan w (events (es ++ fs)) ≡ run plan (run plan w (events es)) (events fs)
  run-append w [] fs = refl
  run-append w (e ∷ es) fs = run-append (after plan w e.event) es fs

  pub world_at-push : (es : List Entry) (e : Entry) → world_at plan (es ++ e ∷ []) ≡ after plan (world_at plan es) e.event
  world_at-push es e = run-append (opening plan) es (e ∷ [])

  -- where the last number is not above the entries before, none of these is of the actor
  still : (actor : Actor) (n at b : ℕ) (w : World) (es : List Entry) → b ≤ at → last_from actor n at es ≤ b → Agree actor w (run plan w (events es))
  still actor n at b w [] le low = agree-refl actor w
  still actor n at b w (e ∷ es) le low = ⊎_elim
      (λ (same : same_actor (actor_of e.event) actor ≡ true).
      let low' : last_from actor (suc at) (suc at) es ≤ b = rw same at low in
      let l = last_at_least actor (suc at) (suc at) es (omega arith) in absurd (omega (arith, l, low')))
      (λ (apart : same_actor (actor_of e.event) actor ≡ false).
      let low' : last_from actor n (suc at) es ≤ b = rw apart at low in
      agree-trans actor w (after plan w e.event) (run plan (after plan w e.event) (events es)) (frame plan w e.event actor apart) (still actor n (suc at) b (after plan w e.event) es (omega arith) low'))
      (by_test (same_actor (actor_of e.event) actor))

  -- a beginning of the entries that has the actor's last one has the actor as it is
  pub agree_at_last : (actor : Actor) (seen es : List Entry) → IsPrefix seen es → last_of actor es ≤ length seen → Agree actor (world_at plan seen) (world_at plan es)
  agree_at_last actor seen es p low = grind (arith, common_steps, last_from-append, run-append, still)

  -- the last number of an actor is the length of what it has seen, so what it has seen gives its state
  pub known : (actor : Actor) (number : ℕ) (seen es both : List Entry) → number ≡ last_of actor es → length seen ≡ number → IsPrefix seen both → IsPrefix es both
      → Agree actor (world_at plan seen) (world_at plan es) × (take number es ≡ seen)
  known actor number seen es both last long mine all =
      let most = last_at_most actor 0 0 es (omega arith) in
      let p = prefix_shorter seen es both mine all (omega (arith, last, most, long)) in
      (agree_at_last actor seen es p (omega (arith, last, long)), ap (λ n. take n es) (sym long) ∙ take_long seen es p)

  -- one entry more
  pub runs_push : (es : List Entry) (e : Entry) → IsRun plan es → Goes plan (world_at plan es) e → IsRun plan (es ++ e ∷ [])
  runs_push es e run goes k x at =
      let pre : IsPrefix es (es ++ e ∷ []) = (e ∷ [], refl) in
      ⊎_elim
      (λ (old : (k < length es) × (slice_get es k ≡ Some x)). let lt = old.0 in subst (λ l. Goes plan (world_at plan l) x) (take_prefix es (es ++ e ∷ []) k pre (omega arith)) (run k x old.1))
      (λ (new : (k ≡ length es) × (e ≡ x)). subst (λ l. Goes plan (world_at plan l) x) (sym (take_long es (es ++ e ∷ []) pre) ∙ ap (λ n. take n (es ++ e ∷ [])) (sym new.0)) (subst (λ (y : Entry). Goes plan (world_at plan es) y) new.1 goes))
      (get_push es e x k at)

  -- no entry is a run
  pub runs_none : IsRun plan []
  runs_none k e at = absurd (cc)

  -- a beginning of a run is one
  pub runs_begin : (es fs : List Entry) → IsPrefix es fs → IsRun plan fs → IsRun plan es
  runs_begin es fs p run k e at =
      let lt = get_within es e k at in
      subst (λ l. Goes plan (world_at plan l) e) (sym (take_prefix es fs k p (omega arith))) (run k e (prefix_get es fs k e p at))

  -- the messages after one entry more
  pub messages_push : (es : List Entry) (e : Entry) → Goes plan (world_at plan es) e → length (world_at plan (es ++ e ∷ [])).messages ≡ e.first + length e.made
  messages_push es e goes = grind (arith, common_steps, (messages_grow plan (world_at plan es) e.event e.made goes.0), (world_at-push es e))

  -- the first number of an entry is how many messages were made before it
  pub first_is : (es : List Entry) (k : ℕ) (e : Entry) → IsRun plan es → slice_get es k ≡ Some e → e.first ≡ before plan es k
  first_is es k e run at = (run k e at).1

  -- how many messages were made before the next step
  pub before_more : (es : List Entry) (k : ℕ) (e : Entry) → IsRun plan es → slice_get es k ≡ Some e → before plan es (suc k) ≡ before plan es k + length e.made
  before_more es k e run h =
      let goes = run k e h in
      ap (λ (l : List Entry). length (world_at plan l).messages) (take_more es k e h) ∙ ap (λ w. length w.messages) (world_at-push (take k es) e) ∙ (messages_grow plan (world_at plan (take k es)) e.event e.made goes.0).1

  -- the next entry's first number
  pub first_next : (es : List Entry) (k : ℕ) (e f : Entry) → IsRun plan es → slice_get es k ≡ Some e → slice_get es (suc k) ≡ Some f → f.first ≡ e.first + length e.made
  first_next es k e f run at next = grind (arith, common_steps, first_is, before_more)

  -- messages stay, whatever happens
  pub keeps_run : (w : World) (es : List Entry) → Keeps w (run plan w (events es))
  keeps_run w [] = beginning-refl w.messages
  keeps_run w (e ∷ es) = beginning-trans w.messages (after plan w e.event).messages (run plan (after plan w e.event) (events es)).messages (keeps_after plan w e.event) (keeps_run (after plan w e.event) es)

  -- the world after more entries has the messages
  pub keeps_at : (es fs : List Entry) → IsPrefix es fs → Keeps (world_at plan es) (world_at plan fs)
  keeps_at es fs p = subst (λ w. Keeps (world_at plan es) w) (sym (run-append (opening plan) es p.0) ∙ ap (world_at plan) p.1) (keeps_run (world_at plan es) p.0)

pub firsts_push : (es : List Entry) (e : Entry) → map (λ x. x.first) (es ++ e ∷ []) ≡ map (λ x. x.first) es ++ e.first ∷ []
firsts_push [] e = refl
firsts_push (x ∷ es) e = ap (λ (l : List ℕ). x.first ∷ l) (firsts_push es e)
