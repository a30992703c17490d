use Rattle.std.proofs.Common.{◌≡◌, ◌+◌, ◌++◌, ◌∷◌, [], All, List, Option, Some, None, option_map, length, vec_len, sym, ap, ◌∙◌, subst, arith, slice_get}
use Rattle.std.proofs.lemmas.List.Elements.{All-pop, All-push}
use Rattle.std.proofs.lemmas.Option.{MatchOption-at_none}
use Rattle.node_fleet.specs.declared.mailbox.Mailbox.{Mailbox}
use Rattle.node_fleet.specs.declared.mailbox.MailSeat.{MailSeat}
use Rattle.node_fleet.specs.declared.mailboxes.MailSeats.{MailSeats}
use Rattle.node_fleet.specs.Seats.{id_of, MailboxId}
use Rattle.node_fleet.specs.Mails.{ids_in, seat_steps, FitEach, HasNoSteps}
use Rattle.node_fleet.proofs.Mails.{fit_push, given_one, ids_push, none_more}
use Rattle.node_fleet.proofs.mailboxes.Mailboxes.add.Goals as goal

pub loop-caller-preserved : goal.loop-caller-preserved
loop-caller-preserved c =
    let kept = c.loop-caller.invariant in
    let boxes : List (Option Mailbox) = c.args.self.now.boxes.items in
    let caller : MailSeats = c.in-Some.caller in
    let parts = All-pop (λ (s : MailSeats). FitEach (ids_in boxes) s.seats.items × HasNoSteps s) c.loop-caller.callers.items c.pop.new.self.items (Some caller) c.in-Some.ensures.items kept.callers in
    let fewer : vec_len c.loop-caller.callers ≡ vec_len c.pop.new.self + 1 = sym c.in-Some.ensures.len in
    let none : c.pop-in-Some.result ≡ None → length c.loop-caller.seats.items ≡ 0 = λ e. sym c.loop-caller.seats.ok.0 ∙ (MatchOption-at_none _ _ e c.pop-in-Some.ensures.cases).0 in
    let one = given_one (vec_len c.loop-caller.callers) (vec_len c.pop.new.self) c.args.mailbox c.loop-caller.seats.items c.pop-in-Some.new.self.items c.pop-in-Some.result kept.seats fewer c.pop-in-Some.ensures.items none in
    let now : MailSeats = record { seats = c.push-in-Some.new.self } in
    let more : c.push-in-Some.new.self.items ≡ caller.seats.items ++ c.pop-in-Some.result ∷ [] = c.in_ok-push-2.ensures.items in
    let fit : FitEach (ids_in c.push.new.self.items) now.seats.items =
    subst (λ (ids : List (Option MailboxId)). FitEach ids now.seats.items) (sym (ap ids_in c.in_ok-push.ensures.items ∙ ids_push boxes c.args.mailbox)) (subst (λ (ss : List (Option MailSeat)). FitEach (ids_in boxes ++ option_map id_of c.args.mailbox ∷ []) ss) (sym more) (fit_push (ids_in boxes) caller.seats.items (option_map id_of c.args.mailbox) c.pop-in-Some.result parts.1.0 one.0)) in
    let still : HasNoSteps now = λ slot. subst (λ (ss : List (Option MailSeat)). seat_steps (slice_get ss slot) ≡ []) (sym more) (none_more caller.seats.items c.pop-in-Some.result parts.1.1 one.1 slot) in
    record {
      count = omega (arith, kept.count, fewer, c.in_ok-push-3.ensures.len);
      seats = one.2;
      callers = parts.0;
      given = subst (All (λ (s : MailSeats). FitEach (ids_in c.push.new.self.items) s.seats.items × HasNoSteps s)) (sym c.in_ok-push-3.ensures.items) (All-push (λ (s : MailSeats). FitEach (ids_in c.push.new.self.items) s.seats.items × HasNoSteps s) c.loop-caller.given.items now kept.given (fit, still));
    }
