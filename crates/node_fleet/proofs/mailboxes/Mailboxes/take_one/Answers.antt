use Rattle.std.proofs.Common.{◌≡◌, ◌∷◌, List, Option, Some, sym, ap, ◌∙◌, slice_get}
use Rattle.node_fleet.specs.declared.mailbox.Mailbox.{Mailbox}
use Rattle.node_fleet.specs.declared.mailbox.MailSeat.{MailSeat}
use Rattle.node_fleet.specs.Seats.{returned}
use Rattle.node_fleet.specs.Mails.{lists_of, seat_steps}
use Rattle.node_fleet.proofs.Back.{back_else, have_still, here}
use Rattle.node_fleet.proofs.Mails.{box_read, slot_within, read_at}
use Rattle.node_fleet.proofs.mailboxes.Mailboxes.take_one.Goals as goal
use Rattle.node_fleet.proofs.mailboxes.Mailboxes.take_one.Goals.{After-take_back}

-- the mailbox in the slot, and what was taken back there
box : (c : After-take_back) → slice_get c.args.self.now.boxes.items c.args.slot ≡ Some (Some c.in-Some.mailbox)
box c =
    let boxes : List (Option Mailbox) = c.args.self.now.boxes.items in
    box_read boxes c.args.slot (slot_within boxes c.args.slot c.requires.seat.0 c.requires.seat.1) c.index.result.now c.index.ensures c.in-Some.mailbox c.in-Some.is

there : (c : After-take_back) → slice_get c.args.all.now.seats.items c.args.slot ≡ Some (Some c.in-Some-index_mut.back)
there c =
    let stood = c.requires.back c.args.slot c.in-Some.mailbox (box c) in
    read_at c.args.all.now.seats.items c.args.slot c.index_mut.result.now (Some stood.0) stood.1 c.index_mut.ensures.value ∙ ap Some c.in-Some-index_mut.is

pub returns-clause-back : goal.returns-clause-back
returns-clause-back c =
    let at = (goal.at.returns-clause-back c).After-take_back in
    have_still c.args.self.now.boxes.items c.args.all.now.seats.items c.args.slot c.in-Some.mailbox c.in-Some-index_mut.back c.take_back.new.all (box at) (there at) c.requires.back c.take_back.ensures.same

pub returns-clause-others : goal.returns-clause-others
returns-clause-others c k apart =
    let at = (goal.at.returns-clause-others c).After-take_back in
    back_else c.args.self.now.boxes.items c.args.all.now.seats.items c.args.slot c.in-Some.mailbox c.in-Some-index_mut.back c.take_back.new.all (box at) (there at) k apart

pub returns-clause-here : goal.returns-clause-here
returns-clause-here c m has =
    let at = (goal.at.returns-clause-here c).After-take_back in
    ap lists_of (here c.args.self.now.boxes.items c.args.all.now.seats.items c.args.slot c.in-Some.mailbox c.in-Some-index_mut.back c.take_back.new.all (box at) (there at))
    ∙ c.take_back.ensures.returned
    ∙ ap (λ (o : Option MailSeat). seat_steps (Some o) ∷ returned c.in-Some-index_mut.back) (sym c.in-Some-seat.is)
    ∙ ap (λ (o : Option (Option MailSeat)). seat_steps (Some c.args.seat) ∷ lists_of o) (sym (there at))
