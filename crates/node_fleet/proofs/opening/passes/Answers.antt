use Rattle.std.proofs.Common.{◌≡◌, length, All, Some, sym, subst, arith}
use Rattle.std.proofs.lemmas.List.Elements.{All-pop, All-push}
use Rattle.board.specs.Seats as board
use Rattle.board.specs.Seats.{IsSeatIn}
use Rattle.board.specs.declared.BoardSeat.{BoardSeat}
use Rattle.node_fleet.specs.Mails.{AreSeatsIn, HasNoSteps}
use Rattle.node_fleet.specs.declared.mailboxes.MailSeats.{MailSeats}
use Rattle.node_fleet.specs.Passes.{IsFresh}
use Rattle.node_fleet.specs.declared.pass.Pass.{Pass}
use Rattle.node_fleet.proofs.opening.passes.Goals as goal

pub loop-seat-preserved : goal.loop-seat-preserved
loop-seat-preserved g c =
    let inv = c.loop-seat.invariant in
    let seats = All-pop (λ (s : BoardSeat). IsSeatIn g.L.Site.board s × (length (board.steps_of s) ≡ 0)) c.loop-seat.seats.items c.pop.new.self.items (Some c.in-Some.seat) c.in-Some.ensures.items inv.seats in
    let callers = All-pop (λ (s : MailSeats). AreSeatsIn g.L.FleetSite.mail s × HasNoSteps s) c.loop-seat.callers.items c.pop-in-Some.new.self.items (Some c.in-Some-pop.mail) c.in-Some-pop.ensures.items inv.callers in
    record {
      parts = (omega (arith, c.split_off-share.ensures.parts_left, inv.parts.0, c.in-Some.ensures.len), omega (arith, c.split_off-share.ensures.amount_left, inv.parts.1));
      seats = seats.0;
      callers = callers.0;
      history = c.pass.ensures.history;
      many = omega (arith, inv.many, c.in-Some.ensures.len, c.in-Some-pop.ensures.len);
      count = omega (arith, inv.count, c.in-Some.ensures.len, c.in_ok-push.ensures.len);
      empty = subst (All (λ (p : Pass g.row.L.Denot g.L.FleetSite g.L.Site). IsFresh p)) (sym c.in_ok-push.ensures.items) (All-push (λ (p : Pass g.row.L.Denot g.L.FleetSite g.L.Site). IsFresh p) c.loop-seat.made.items c.pass.result inv.empty c.pass.ensures.fresh);
    }

pub pass-requires-clause-seat : goal.pass-requires-clause-seat
pass-requires-clause-seat g c = (All-pop (λ (s : BoardSeat). IsSeatIn g.L.Site.board s × (length (board.steps_of s) ≡ 0)) c.loop-seat.seats.items c.pop.new.self.items (Some c.in-Some.seat) c.in-Some.ensures.items c.loop-seat.invariant.seats).1

pub pass-requires-clause-mail : goal.pass-requires-clause-mail
pass-requires-clause-mail g c = (All-pop (λ (s : MailSeats). AreSeatsIn g.L.FleetSite.mail s × HasNoSteps s) c.loop-seat.callers.items c.pop-in-Some.new.self.items (Some c.in-Some-pop.mail) c.in-Some-pop.ensures.items c.loop-seat.invariant.callers).1
