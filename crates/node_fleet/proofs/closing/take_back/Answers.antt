use Rattle.std.proofs.Common.{◌++◌, [], ◌∷◌, List, Option, length, map, All, refl, sym, ap, ◌∙◌, subst, arith, sum_by}
use Rattle.std.proofs.lemmas.List.Sums.{sum_by-append}
use Rattle.volume_model.specs.Common.{IsRefused}
use Rattle.volume_model.specs.Journal.{Entry}
use Rattle.atomic_table.specs.Seated.{TableId}
use Rattle.board.specs.Seats.{returned, AreReturnedTo}
use Rattle.board.specs.declared.BoardStep.{BoardStep}
use Rattle.node_fleet.specs.declared.mailbox.MailStep.{MailStep}
use Rattle.node_fleet.specs.Mails.{back_at, steps_at, AreSeatsIn, AreSeatsOf}
use Rattle.node_fleet.specs.Seats.{MailboxId}
use Rattle.node_fleet.proofs.Back.{have_first}
use Rattle.journal.specs.Entries.{entries_of}
use Rattle.journal.specs.Passes.{journal_of}
use Rattle.journal.specs.PassSteps.{Stands}
use Rattle.journal.specs.Tokens.{shown}
use Rattle.journal.proofs.Each.{all_push}
use Rattle.node_fleet.specs.declared.pass.Pass.{Pass}
use Rattle.node_fleet.specs.Passes.{steps_of, notes_of, seat_of}
use Rattle.node_fleet.proofs.Ending.{first_back, first_mail, one_back}
use Rattle.node_fleet.proofs.closing.take_back.Goals as goal

pub loop-pass-init : goal.loop-pass-init
loop-pass-init g c =
    let plan = g.L.Site.plan in
    let last = c.in-Some.last in
    let all = c.args.passes.items in
    let rest = c.pop.new.self.items in
    let split = c.in-Some.ensures.items in
    let f = λ (p : Pass g.row.L.Denot g.L.FleetSite g.L.Site). length (steps_of p) in
    let P = λ (p : Pass g.row.L.Denot g.L.FleetSite g.L.Site). All (Stands plan (journal_of c.args.log.now)) (steps_of p) in
    let Q = λ (p : Pass g.row.L.Denot g.L.FleetSite g.L.Site). All (IsRefused plan g.L.Site.slots (length g.L.Site.cells) (journal_of c.args.log.now)) (notes_of p) in
    let sums = ap (sum_by f) split ∙ sum_by-append f rest (last ∷ []) in
    let seat = c.take_back-share.ensures.seat in
    let of_board = c.into_returned-seats.ensures.same (refl, seat.0.1) in
    let fit : AreSeatsOf c.args.mail.now last.mail = subst (λ (ids : List (Option MailboxId)). AreSeatsIn ids last.mail) (sym c.requires.mail) last.seats_of in
    record {
      parts = omega (arith, c.take_back-share.ensures.part.0, c.in-Some.ensures.len);
      amount = omega (arith, c.take_back-share.ensures.part.1, sums);
      entries = ap (λ ts. entries_of (shown ts.items)) c.take_back-share.ensures.log;
      stand = λ stand. subst (All P) (sym split) (all_push P rest last stand c.take_back-share.ensures.stands);
      refused = λ recorded. subst (All Q) (sym split) (all_push Q rest last recorded c.take_back-share.ensures.refused);
      of_board = (of_board.0 ∙ seat.0.0, of_board.1);
      seats =
          ap (λ (l : List (List BoardStep)). map seat_of rest ++ l) (c.into_returned-seats.ensures.returned ∙ ap (λ (s : List BoardStep). s ∷ []) seat.1)
          ∙ first_back seat_of all rest last split;
      back = have_first c.args.mail.now.boxes.items last.mail.seats.items fit;
      mails = λ slot m has.
          let at = λ (p : Pass g.row.L.Denot g.L.FleetSite g.L.Site). steps_at p.mail slot in
          ap (λ (l : List (List MailStep)). map at rest ++ l) (first_mail c.args.mail.now last.mail fit slot m has) ∙ first_back at all rest last split;
    }

pub loop-pass-preserved : goal.loop-pass-preserved
loop-pass-preserved g c =
    let inv = c.loop-pass.invariant in
    let plan = g.L.Site.plan in
    let pass = c.in-Some-pop.pass in
    let all = c.loop-pass.passes.items in
    let rest = c.pop-in-loop-pass.new.self.items in
    let split = c.in-Some-pop.ensures.items in
    let f = λ (p : Pass g.row.L.Denot g.L.FleetSite g.L.Site). length (steps_of p) in
    let P = λ (p : Pass g.row.L.Denot g.L.FleetSite g.L.Site). All (Stands plan (journal_of c.args.log.now)) (steps_of p) in
    let Q = λ (p : Pass g.row.L.Denot g.L.FleetSite g.L.Site). All (IsRefused plan g.L.Site.slots (length g.L.Site.cells) (journal_of c.args.log.now)) (notes_of p) in
    let sums = ap (sum_by f) split ∙ sum_by-append f rest (pass ∷ []) in
    let here = subst (λ (es : List Entry). All (Stands plan es) (steps_of pass)) inv.entries c.take_back-part.ensures.stands in
    let recorded = subst (λ (es : List Entry). All (IsRefused plan g.L.Site.slots (length g.L.Site.cells) es) (notes_of pass)) inv.entries c.take_back-part.ensures.refused in
    record {
      parts = omega (arith, c.merge.ensures.parts, c.take_back-part.ensures.part.0, inv.parts, c.in-Some-pop.ensures.len);
      amount = omega (arith, c.merge.ensures.amount, c.take_back-part.ensures.part.1, inv.amount, sums);
      entries = ap (λ ts. entries_of (shown ts.items)) c.take_back-part.ensures.log ∙ inv.entries;
      stand = λ rest_stand. inv.stand (subst (All P) (sym split) (all_push P rest pass rest_stand here));
      refused = λ rest_recorded. inv.refused (subst (All Q) (sym split) (all_push Q rest pass rest_recorded recorded));
      of_board = subst (λ (t : TableId). AreReturnedTo t c.take_back.new.seats) c.requires.board c.take_back.ensures.same;
      seats =
          ap (λ (l : List (List BoardStep)). map seat_of rest ++ l) (c.take_back.ensures.returned ∙ ap (λ (s : List BoardStep). s ∷ returned c.loop-pass.seats) c.take_back-part.ensures.seat.1)
          ∙ one_back seat_of all rest pass split (returned c.loop-pass.seats)
          ∙ inv.seats;
      back = c.take_back-in-Some-pop.ensures.back;
      mails = λ slot m has.
          let at = λ (p : Pass g.row.L.Denot g.L.FleetSite g.L.Site). steps_at p.mail slot in
          ap (λ (l : List (List MailStep)). map at rest ++ l) (c.take_back-in-Some-pop.ensures.each slot m has)
          ∙ one_back at all rest pass split (back_at c.loop-pass.back slot)
          ∙ inv.mails slot m has;
    }
