-- Seats at mailboxes that are taken back.
use Rattle.std.proofs.Common.{◌≡◌, ◌≢◌, ℕ, zero, suc, ◌<◌, List, [], ◌∷◌, Option, Some, None, length, set, refl, sym, ap, ◌∙◌, subst, arith, slice_get}
use mathlib.Core.Logic.{dite}
use native.Mathlib.Decide.{ℕ_discrete}
use Rattle.std.proofs.lemmas.Option.{slice_get_within}
use Rattle.node_fleet.specs.declared.mailbox.Mailbox.{Mailbox}
use Rattle.node_fleet.specs.declared.mailbox.MailSeat.{MailSeat}
use Rattle.node_fleet.specs.declared.mailbox.MailStep.{MailStep}
use Rattle.node_fleet.specs.Seats.{id_of, returned, steps_of, AreSeatsIn, IsSeatIn, MailboxId}
use Rattle.node_fleet.specs.Mails.{ids_in, lists_of, seat_steps, Fits, FitEach, HaveSeats}
use Rattle.node_fleet.proofs.Mails.{id_at, set_else, set_here}

-- the seats in one slot become others of the same mailbox
module _ (boxes : List (Option Mailbox)) (seats : List (Option MailSeat)) (slot : ℕ) (m : Mailbox) (s new : MailSeat) (box : slice_get boxes slot ≡ Some (Some m)) (there : slice_get seats slot ≡ Some (Some s)) where
  pub here : slice_get (set seats slot (Some new)) slot ≡ Some (Some new)
  here = set_here seats slot (Some new) (slice_get_within seats slot (Some s) there)

  pub back_else : (k : ℕ) → k ≢ slot → lists_of (slice_get (set seats slot (Some new)) k) ≡ lists_of (slice_get seats k)
  back_else k apart = ap lists_of (set_else seats slot k (Some new) apart)

  pub have_still : HaveSeats boxes seats → AreSeatsIn (id_of m) new → HaveSeats boxes (set seats slot (Some new))
  have_still have of k n has =
      dite (ℕ_discrete k slot)
      (λ (same : k ≡ slot).
      let is : Some (Some m) ≡ Some (Some n) = sym box ∙ ap (slice_get boxes) (sym same) ∙ has in
      let one : m ≡ n = cc in
      (new, ap (slice_get (set seats slot (Some new))) same ∙ here, subst (λ (b : Mailbox). AreSeatsIn (id_of b) new) one of))
      (λ (apart : k ≢ slot). let old = have k n has in (old.0, set_else seats slot k (Some new) apart ∙ old.1, old.2))

  pub back_same : returned new ≡ returned s → (k : ℕ) → lists_of (slice_get (set seats slot (Some new)) k) ≡ lists_of (slice_get seats k)
  back_same same k =
      dite (ℕ_discrete k slot)
      (λ (e : k ≡ slot). ap (λ n. lists_of (slice_get (set seats slot (Some new)) n)) e ∙ ap lists_of here ∙ same ∙ sym (ap lists_of there) ∙ ap (λ n. lists_of (slice_get seats n)) (sym e))
      (λ (apart : k ≢ slot). back_else k apart)

-- where a mailbox stands there is a seat, and it is one
fits_some : (id : MailboxId) (s : Option MailSeat) → Fits (Some id) s → (x : MailSeat) × (s ≡ Some x) × IsSeatIn id x
fits_some id None fit = absurd fit
fits_some id (Some x) fit = (x, refl, fit)

fit_at : (ids : List (Option MailboxId)) (seats : List (Option MailSeat)) (i : ℕ) (id : Option MailboxId) → FitEach ids seats → slice_get ids i ≡ Some id → (s : Option MailSeat) × (slice_get seats i ≡ Some s) × Fits id s
fit_at [] seats i id fit e = absurd cc
fit_at (x ∷ ids) [] i id fit e = absurd fit
fit_at (x ∷ ids) (y ∷ seats) zero id fit e = let same : x ≡ id = cc in (y, refl, subst (λ (k : Option MailboxId). Fits k y) same fit.0)
fit_at (x ∷ ids) (y ∷ seats) (suc i) id fit e = fit_at ids seats i id fit.1 e

pub fit_there : (boxes : List (Option Mailbox)) (seats : List (Option MailSeat)) (i : ℕ) (m : Mailbox) → FitEach (ids_in boxes) seats → slice_get boxes i ≡ Some (Some m) → (s : MailSeat) × (slice_get seats i ≡ Some (Some s)) × IsSeatIn (id_of m) s
fit_there boxes seats i m fit e =
    let t = fit_at (ids_in boxes) seats i (Some (id_of m)) fit (id_at boxes i (Some m) e) in
    let x = fits_some (id_of m) t.0 t.2 in
    (x.0, t.1 ∙ ap Some x.1, x.2)

one_list : (l : List (List MailStep)) → length l ≡ 1 → (s : List MailStep) × (l ≡ s ∷ [])
one_list [] e = absurd (omega arith)
one_list (x ∷ []) e = (x, refl)
one_list (x ∷ y ∷ l) e = absurd (omega arith)

-- the first caller's seats, as those of all that were taken back
pub have_first : (boxes : List (Option Mailbox)) (seats : List (Option MailSeat)) → FitEach (ids_in boxes) seats → HaveSeats boxes seats
have_first boxes seats fit slot m has = let t = fit_there boxes seats slot m fit has in (t.0, t.1, t.2.0)

pub back_first : (boxes : List (Option Mailbox)) (seats : List (Option MailSeat)) → FitEach (ids_in boxes) seats → (slot : ℕ) (m : Mailbox) → slice_get boxes slot ≡ Some (Some m)
    → lists_of (slice_get seats slot) ≡ seat_steps (slice_get seats slot) ∷ []
back_first boxes seats fit slot m has =
    let t = fit_there boxes seats slot m fit has in
    let one = one_list (returned t.0) t.2.1 in
    let did : steps_of t.0 ≡ one.0 = search (one) in
    ap lists_of t.1 ∙ one.1 ∙ ap (λ (l : List MailStep). l ∷ []) (sym did ∙ sym (ap seat_steps t.1))

pub some_there : {A : Type 0} (xs : List A) (i : ℕ) → i < length xs → (x : A) × (slice_get xs i ≡ Some x)
some_there [] i lt = absurd (omega arith)
some_there (x ∷ xs) zero lt = (x, refl)
some_there (x ∷ xs) (suc i) lt = some_there xs i (omega arith)
