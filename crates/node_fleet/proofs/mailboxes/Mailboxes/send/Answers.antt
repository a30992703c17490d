use Rattle.std.proofs.Common.{◌≡◌, ℕ, List, Option, Some, None, arith, slice_get}
use Rattle.node_fleet.specs.Mail.{AddsPosted}
use Rattle.node_fleet.specs.declared.mailbox.MailStep.{MailStep}
use Rattle.node_fleet.specs.declared.mailbox.MailSeat.{MailSeat}
use Rattle.node_fleet.specs.Seats.{id_of}
use Rattle.node_fleet.specs.Mails.{ids_in}
use Rattle.node_fleet.proofs.Mails.{id_at, mailbox_read, seat_within, seat_fits, seat_read, fit_set, steps_here, steps_else}
use Rattle.node_fleet.proofs.mailboxes.Mailboxes.send.Goals as goal

pub index_mut-requires : goal.index_mut-requires
index_mut-requires g c =
    let there = mailbox_read c.args.self.now.boxes.items c.args.group c.args.member c.slot-slot.result c.slot-slot.ensures c.requires.node c.index.result.now c.index.ensures c.in-Some.mailbox c.in-Some.is in
    let within = seat_within c.args.self.now.boxes.items c.args.seats.now.seats.items c.slot-slot.result c.in-Some.mailbox c.requires.seats there in
    omega (arith, within, c.args.seats.now.seats.ok.0)

pub unreachable-requires-in_default-index_mut : goal.unreachable-requires-in_default-index_mut
unreachable-requires-in_default-index_mut g c =
    let there = mailbox_read c.args.self.now.boxes.items c.args.group c.args.member c.slot-slot.result c.slot-slot.ensures c.requires.node c.index.result.now c.index.ensures c.in-Some.mailbox c.in-Some.is in
    seat_fits c.args.self.now.boxes.items c.args.seats.now.seats.items c.slot-slot.result c.in-Some.mailbox c.requires.seats there c.index_mut.result.now c.index_mut.ensures.value None c.in_default-index_mut.is

pub put-requires : goal.put-requires
put-requires g c =
    let there = mailbox_read c.args.self.now.boxes.items c.args.group c.args.member c.slot-slot.result c.slot-slot.ensures c.requires.node c.index.result.now c.index.ensures c.in-Some.mailbox c.in-Some.is in
    seat_fits c.args.self.now.boxes.items c.args.seats.now.seats.items c.slot-slot.result c.in-Some.mailbox c.requires.seats there c.index_mut.result.now c.index_mut.ensures.value (Some c.in-Some-index_mut.seat) c.in-Some-index_mut.is

pub returns-clause-same : goal.returns-clause-same
returns-clause-same g c =
    let there = mailbox_read c.args.self.now.boxes.items c.args.group c.args.member c.slot-slot.result c.slot-slot.ensures c.requires.node c.index.result.now c.index.ensures c.in-Some.mailbox c.in-Some.is in
    fit_set (ids_in c.args.self.now.boxes.items) c.args.seats.now.seats.items c.slot-slot.result (Some (id_of c.in-Some.mailbox)) (Some c.put.new.seat) c.requires.seats (id_at c.args.self.now.boxes.items c.slot-slot.result (Some c.in-Some.mailbox) there) c.put.ensures.same

pub returns-clause-step : goal.returns-clause-step
returns-clause-step g c =
    let seats : List (Option MailSeat) = c.args.seats.now.seats.items in
    let slot : ℕ = c.slot-slot.result in
    let there = mailbox_read c.args.self.now.boxes.items c.args.group c.args.member slot c.slot-slot.ensures c.requires.node c.index.result.now c.index.ensures c.in-Some.mailbox c.in-Some.is in
    let old : slice_get seats slot ≡ Some (Some c.in-Some-index_mut.seat) =
    seat_read c.args.self.now.boxes.items seats slot c.in-Some.mailbox c.requires.seats there c.index_mut.result.now c.index_mut.ensures.value (Some c.in-Some-index_mut.seat) c.in-Some-index_mut.is in
    rw (← c.slot-slot.ensures) (record {
      here = steps_here seats slot c.in-Some-index_mut.seat c.put.new.seat old (λ (before after : List MailStep). AddsPosted before c.args.letter after) c.put.ensures.step;
      others = steps_else seats slot c.in-Some-index_mut.seat c.put.new.seat old;
    })
