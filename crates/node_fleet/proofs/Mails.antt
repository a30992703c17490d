-- The mailboxes of nodes, and the seats at them.
use Rattle.std.proofs.Common.{◌≡◌, ◌≢◌, ℕ, zero, suc, ◌+◌, ◌<◌, Bool, true, false, ◌&&◌, nat_lt, List, [], ◌∷◌, ◌++◌, Option, Some, None, is_some, length, option_map, set, get_or, refl, sym, ap, ◌∙◌, subst, arith, slice_get, length-append}
use Rattle.std.specs.Option.{option_to_list}
use Rattle.std.proofs.lemmas.List.Elements.{All-pop}
use Rattle.std.proofs.lemmas.Option.{slice_get_read, slice_get_within}
use Rattle.node_fleet.specs.declared.mailbox.Mailbox.{Mailbox}
use Rattle.node_fleet.specs.declared.mailbox.MailSeat.{MailSeat}
use Rattle.node_fleet.specs.declared.mailbox.MailStep.{MailStep}
use Rattle.node_fleet.specs.Seats.{id_of, steps_of, IsSeatIn, MailboxId}
use Rattle.world.specs.Slots.{slot_of, in_slot}
use Rattle.node_fleet.specs.Mails.{ids_in, seat_steps, Fits, FitEach, AreNewSeats}

-- where a node has a mailbox, it stands in its slot
pub standing : (low : Bool) (found : Option (Option Mailbox)) → (low && is_some (in_slot found)) ≡ true → (mailbox : Mailbox) × (found ≡ Some (Some mailbox))
standing false found h = absurd cc
standing true None h = absurd cc
standing true (Some None) h = absurd cc
standing true (Some (Some mailbox)) h = (mailbox, refl)

-- what was read where something stands is what stands there
pub read_at : {A : Type 0} (xs : List A) (i : ℕ) (x y : A) → slice_get xs i ≡ Some y → x ≡ get_or xs i x → slice_get xs i ≡ Some x
read_at xs i x y there read = slice_get_read xs (length xs) i x refl (slice_get_within xs i y there) read

pub fit_length : (ms : List (Option MailboxId)) (ss : List (Option MailSeat)) → FitEach ms ss → length ss ≡ length ms
fit_length [] [] fit = refl
fit_length [] (s ∷ ss) fit = absurd fit
fit_length (m ∷ ms) [] fit = absurd fit
fit_length (m ∷ ms) (s ∷ ss) fit = ap suc (fit_length ms ss fit.1)

pub fit_at : (ms : List (Option MailboxId)) (ss : List (Option MailSeat)) (i : ℕ) (m : Option MailboxId) (s : Option MailSeat) → FitEach ms ss → slice_get ms i ≡ Some m → slice_get ss i ≡ Some s → Fits m s
fit_at [] ss i m s fit a b = absurd cc
fit_at (x ∷ ms) [] i m s fit a b = absurd fit
fit_at (x ∷ ms) (y ∷ ss) zero m s fit a b = let p : x ≡ m = cc in let q : y ≡ s = cc in subst (λ (k : Option MailboxId). Fits k s) p (subst (λ (k : Option MailSeat). Fits x k) q fit.0)
fit_at (x ∷ ms) (y ∷ ss) (suc i) m s fit a b = fit_at ms ss i m s fit.1 a b

pub fit_set : (ms : List (Option MailboxId)) (ss : List (Option MailSeat)) (i : ℕ) (m : Option MailboxId) (s : Option MailSeat) → FitEach ms ss → slice_get ms i ≡ Some m → Fits m s → FitEach ms (set ss i s)
fit_set [] ss i m s fit a new = absurd cc
fit_set (x ∷ ms) [] i m s fit a new = absurd fit
fit_set (x ∷ ms) (y ∷ ss) zero m s fit a new = let p : m ≡ x = cc in (subst (λ (k : Option MailboxId). Fits k s) p new, fit.1)
fit_set (x ∷ ms) (y ∷ ss) (suc i) m s fit a new = (fit.0, fit_set ms ss i m s fit.1 a new)

pub fit_push : (ms : List (Option MailboxId)) (ss : List (Option MailSeat)) (m : Option MailboxId) (s : Option MailSeat) → FitEach ms ss → Fits m s → FitEach (ms ++ m ∷ []) (ss ++ s ∷ [])
fit_push [] [] m s fit new = (new, tt)
fit_push [] (y ∷ ss) m s fit new = absurd fit
fit_push (x ∷ ms) [] m s fit new = absurd fit
fit_push (x ∷ ms) (y ∷ ss) m s fit new = (fit.0, fit_push ms ss m s fit.1 new)

pub set_here : {A : Type 0} (xs : List A) (i : ℕ) (x : A) → i < length xs → slice_get (set xs i x) i ≡ Some x
set_here [] i x h = absurd (omega arith)
set_here (y ∷ xs) zero x h = refl
set_here (y ∷ xs) (suc i) x h = set_here xs i x (omega arith)

pub set_else : {A : Type 0} (xs : List A) (i j : ℕ) (x : A) → j ≢ i → slice_get (set xs i x) j ≡ slice_get xs j
set_else [] i j x apart = refl
set_else (y ∷ xs) zero zero x apart = absurd (apart refl)
set_else (y ∷ xs) zero (suc j) x apart = refl
set_else (y ∷ xs) (suc i) zero x apart = refl
set_else (y ∷ xs) (suc i) (suc j) x apart = set_else xs i j x (λ e. apart (ap suc e))

-- the seat in a slot made a step
module _ (ss : List (Option MailSeat)) (slot : ℕ) (s new : MailSeat) (there : slice_get ss slot ≡ Some (Some s)) where
  pub steps_here : (Adds : List MailStep → List MailStep → Type 0) → Adds (steps_of s) (steps_of new) → Adds (seat_steps (slice_get ss slot)) (seat_steps (slice_get (set ss slot (Some new)) slot))
  steps_here Adds adds =
      let after : slice_get (set ss slot (Some new)) slot ≡ Some (Some new) = set_here ss slot (Some new) (slice_get_within ss slot (Some s) there) in
      subst (λ (o : Option (Option MailSeat)). Adds (seat_steps o) (seat_steps (slice_get (set ss slot (Some new)) slot))) (sym there) (subst (λ (o : Option (Option MailSeat)). Adds (steps_of s) (seat_steps o)) (sym after) adds)

  pub steps_else : (other : ℕ) → other ≢ slot → seat_steps (slice_get (set ss slot (Some new)) other) ≡ seat_steps (slice_get ss other)
  steps_else other apart = ap seat_steps (set_else ss slot other (Some new) apart)

-- a place more, at which nothing was done
pub none_more : (ss : List (Option MailSeat)) (s : Option MailSeat) → ((slot : ℕ) → seat_steps (slice_get ss slot) ≡ []) → seat_steps (Some s) ≡ [] → (slot : ℕ) → seat_steps (slice_get (ss ++ s ∷ []) slot) ≡ []
none_more [] s none new zero = new
none_more [] s none new (suc slot) = refl
none_more (x ∷ ss) s none new zero = none zero
none_more (x ∷ ss) s none new (suc slot) = none_more ss s (λ n. none (suc n)) new slot

-- one of the new seats of a mailbox is given away, or none where there is no mailbox
pub given_one : (n count : ℕ) (m : Option Mailbox) (seats rest : List MailSeat) (s : Option MailSeat) → AreNewSeats n m seats → n ≡ count + 1 → seats ≡ rest ++ option_to_list s → (s ≡ None → length seats ≡ 0) → Fits (option_map id_of m) s × (seat_steps (Some s) ≡ []) × AreNewSeats count m rest
given_one n count None seats [] None new more is none = (tt, refl, refl)
given_one n count None seats [] (Some s) new more is none = absurd cc
given_one n count None seats (x ∷ rest) s new more is none = absurd cc
given_one n count (Some m) seats rest None new more is none = let empty = none refl in absurd (omega (arith, new.0))
given_one n count (Some m) seats rest (Some s) new more is none =
    let parts = All-pop (λ (t : MailSeat). IsSeatIn (id_of m) t × (steps_of t ≡ [])) seats rest (Some s) is new.1 in
    let long : length seats ≡ length (rest ++ s ∷ []) = ap length is in
    (parts.1.0, parts.1.1, (omega (arith, new.0, length-append rest (s ∷ [])), parts.0))

-- where a node has a mailbox, it stands at this place
pub box_at : (ms : List (Option Mailbox)) (g m i : ℕ) → i ≡ slot_of g m → (nat_lt m 64 && is_some (in_slot (slice_get ms (slot_of g m)))) ≡ true → (mailbox : Mailbox) × (slice_get ms i ≡ Some (Some mailbox))
box_at ms g m i is h = let found = standing (nat_lt m 64) (slice_get ms (slot_of g m)) h in (found.0, ap (slice_get ms) is ∙ found.1)

-- the mailbox that was read there
pub mailbox_read : (ms : List (Option Mailbox)) (g m i : ℕ) → i ≡ slot_of g m → (nat_lt m 64 && is_some (in_slot (slice_get ms (slot_of g m)))) ≡ true → (x : Option Mailbox) → x ≡ get_or ms i x → (mailbox : Mailbox) → x ≡ Some mailbox → slice_get ms i ≡ Some (Some mailbox)
mailbox_read ms g m i is h x read mailbox same = let there = box_at ms g m i is h in read_at ms i x (Some there.0) there.1 read ∙ ap Some same

-- what stands in a slot, by its identity
pub id_at : (ms : List (Option Mailbox)) (i : ℕ) (m : Option Mailbox) → slice_get ms i ≡ Some m → slice_get (ids_in ms) i ≡ Some (option_map id_of m)
id_at [] i m e = absurd cc
id_at (x ∷ ms) zero m e = let p : x ≡ m = cc in ap (λ (k : Option Mailbox). Some (option_map id_of k)) p
id_at (x ∷ ms) (suc i) m e = id_at ms i m e

pub ids_push : (ms : List (Option Mailbox)) (m : Option Mailbox) → ids_in (ms ++ m ∷ []) ≡ ids_in ms ++ option_map id_of m ∷ []
ids_push [] m = refl
ids_push (x ∷ ms) m = ap (λ l. option_map id_of x ∷ l) (ids_push ms m)

pub ids_length : (ms : List (Option Mailbox)) → length (ids_in ms) ≡ length ms
ids_length [] = refl
ids_length (x ∷ ms) = ap suc (ids_length ms)

-- a mailbox stands there, so a seat of it does
module _ (ms : List (Option Mailbox)) (ss : List (Option MailSeat)) (i : ℕ) (mailbox : Mailbox) (fit : FitEach (ids_in ms) ss) (there : slice_get ms i ≡ Some (Some mailbox)) where
  pub seat_within : i < length ss
  seat_within = let long = fit_length (ids_in ms) ss fit in let below = slice_get_within ms i (Some mailbox) there in omega (arith, long, below, ids_length ms)

  pub seat_fits : (x : Option MailSeat) → x ≡ get_or ss i x → (s : Option MailSeat) → x ≡ s → Fits (Some (id_of mailbox)) s
  seat_fits x read s same = fit_at (ids_in ms) ss i (Some (id_of mailbox)) s fit (id_at ms i (Some mailbox) there) (slice_get_read ss (length ss) i x refl seat_within read ∙ ap Some same)

  pub seat_read : (x : Option MailSeat) → x ≡ get_or ss i x → (s : Option MailSeat) → x ≡ s → slice_get ss i ≡ Some s
  seat_read x read s same = slice_get_read ss (length ss) i x refl seat_within read ∙ ap Some same

-- a seat at each place of a list that fits has a mailbox's identity there
pub fits_at : (ids : List (Option MailboxId)) (ss : List (Option MailSeat)) (i : ℕ) (s : Option MailSeat) → FitEach ids ss → slice_get ss i ≡ Some s → (id : Option MailboxId) × (slice_get ids i ≡ Some id) × Fits id s
fits_at [] [] i s fit e = absurd cc
fits_at [] (y ∷ ss) i s fit e = absurd fit
fits_at (x ∷ ids) [] i s fit e = absurd fit
fits_at (x ∷ ids) (y ∷ ss) zero s fit e = let q : y ≡ s = cc in (x, refl, subst (λ (k : Option MailSeat). Fits x k) q fit.0)
fits_at (x ∷ ids) (y ∷ ss) (suc i) s fit e = fits_at ids ss i s fit.1 e

-- the last of a list
pub last_at : {A : Type 0} (xs : List A) (x : A) → slice_get (xs ++ x ∷ []) (length xs) ≡ Some x
last_at [] x = refl
last_at (y ∷ xs) x = last_at xs x

pub front_at : {A : Type 0} (xs : List A) (x y : A) (i : ℕ) → slice_get xs i ≡ Some y → slice_get (xs ++ x ∷ []) i ≡ Some y
front_at [] x y i e = absurd cc
front_at (z ∷ xs) x y zero e = e
front_at (z ∷ xs) x y (suc i) e = front_at xs x y i e

-- a place among the identities of mailboxes is one among the mailboxes
pub slot_within : (ms : List (Option Mailbox)) (i : ℕ) (id : Option MailboxId) → slice_get (ids_in ms) i ≡ Some id → i < length ms
slot_within ms i id e = let lt = slice_get_within (ids_in ms) i id e in omega (arith, lt, ids_length ms)

-- what was read there
pub box_read : (ms : List (Option Mailbox)) (i : ℕ) → i < length ms → (x : Option Mailbox) → x ≡ get_or ms i x → (m : Mailbox) → x ≡ Some m → slice_get ms i ≡ Some (Some m)
box_read ms i lt x read m same = slice_get_read ms (length ms) i x refl lt read ∙ ap Some same
