use Rattle.std.proofs.Common.{◌≡◌, ◌∷◌, List, ℕ, Option, Some, length, vec_len, refl, sym, ap, ◌∙◌, subst, arith, rules, slice_get}
use Rattle.std.proofs.lemmas.Option.{slice_get_within}
use mathlib.Core.Logic.{dite}
use native.Mathlib.Decide.{ℕ_discrete}
use Rattle.node_fleet.specs.declared.mailbox.Mailbox.{Mailbox}
use Rattle.node_fleet.specs.declared.mailbox.MailSeat.{MailSeat}
use Rattle.node_fleet.specs.Mails.{back_at, ids_in, ids_of, seat_steps}
use Rattle.node_fleet.proofs.Mails.{front_at, last_at, fit_length, fits_at, ids_length}
use Rattle.node_fleet.proofs.mailboxes.Mailboxes.take_back.Goals as goal

pub loop-seat-init : goal.loop-seat-init
loop-seat-init c =
    let boxes : List (Option Mailbox) = c.args.self.now.boxes.items in
    let seats : List (Option MailSeat) = c.args.seats.seats.items in
    let long = fit_length (ids_in boxes) seats c.requires.seats in
    let count : vec_len c.args.seats.seats ≡ length seats = search rules in
    record {
      rest = λ k s e. e;
      back = c.requires.back;
      low = λ k lt. refl;
      high = λ k m le has. let lt = slice_get_within boxes k (Some m) has in absurd (omega (arith, le, lt, long, count, ids_length boxes));
    }

pub take_one-requires-clause-seat : goal.take_one-requires-clause-seat
take_one-requires-clause-seat c =
    let front : List (Option MailSeat) = c.pop.new.self.items in
    let seats : List (Option MailSeat) = c.args.seats.seats.items in
    let count : vec_len c.pop.new.self ≡ length front = search rules in
    let last : c.len.result ≡ length front = c.len.ensures ∙ count in
    let at = ap (λ (l : List (Option MailSeat)). slice_get l (length front)) c.in-Some.ensures.items ∙ last_at front c.in-Some.seat in
    let fit = fits_at (ids_of c.args.self.now) seats (length front) c.in-Some.seat c.requires.seats (c.loop-seat.invariant.rest (length front) c.in-Some.seat at) in
    (fit.0, ap (slice_get (ids_of c.args.self.now)) last ∙ fit.1, fit.2)

pub loop-seat-preserved : goal.loop-seat-preserved
loop-seat-preserved c =
    let inv = c.loop-seat.invariant in
    let front : List (Option MailSeat) = c.pop.new.self.items in
    let seats : List (Option MailSeat) = c.args.seats.seats.items in
    let seat : Option MailSeat = c.in-Some.seat in
    let split = c.in-Some.ensures.items in
    let count : vec_len c.pop.new.self ≡ length front = search rules in
    let slot : ℕ = c.len.result in
    let last : slot ≡ length front = c.len.ensures ∙ count in
    let there = ap (λ (l : List (Option MailSeat)). slice_get l (length front)) split ∙ last_at front seat in
    let at : slice_get seats slot ≡ Some seat = ap (slice_get seats) last ∙ inv.rest (length front) seat there in
    record {
      rest = λ k s e. inv.rest k s (subst (λ (l : List (Option MailSeat)). slice_get l k ≡ Some s) (sym split) (front_at front seat s k e));
      back = c.take_one.ensures.back;
      low = λ k lt. c.take_one.ensures.others k (λ same. omega (arith, same, lt, last, count)) ∙ inv.low k (omega (arith, lt, c.in-Some.ensures.len));
      high = λ k m le has.
          dite (ℕ_discrete k slot)
          (λ (same : k ≡ slot).
          let here = c.take_one.ensures.here m (ap (slice_get c.args.self.now.boxes.items) (sym same) ∙ has) in
          let now : back_at c.take_one.new.all slot ≡ seat_steps (slice_get seats slot) ∷ back_at c.args.all.now slot =
          here
          ∙ ap (λ (o : Option (Option MailSeat)). seat_steps o ∷ back_at c.loop-seat.all slot) (sym at)
          ∙ ap (λ l. seat_steps (slice_get seats slot) ∷ l) (inv.low slot (omega (arith, last, count, c.in-Some.ensures.len))) in
          subst (λ (n : ℕ). back_at c.take_one.new.all n ≡ seat_steps (slice_get seats n) ∷ back_at c.args.all.now n) (sym same) now)
          (λ apart. c.take_one.ensures.others k apart ∙ inv.high k m (omega (arith, le, apart, last, count, c.in-Some.ensures.len)) has);
    }
