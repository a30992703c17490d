use Rattle.std.proofs.Common.{◌≡◌, List, Option, Some, sym, ap, ◌∙◌, subst, slice_get}
use Rattle.std.proofs.lemmas.Option.{slice_get_within}
use Rattle.node_fleet.specs.declared.mailbox.Mailbox.{Mailbox}
use Rattle.node_fleet.specs.declared.mailbox.MailSeat.{MailSeat}
use Rattle.node_fleet.specs.Mail.{AreKept}
use Rattle.node_fleet.specs.Mails.{lists_of}
use Rattle.node_fleet.proofs.Back.{back_same, have_still}
use Rattle.node_fleet.proofs.Mails.{box_read, read_at}
use Rattle.node_fleet.proofs.mailboxes.Mailboxes.recall_one.Goals as goal
use Rattle.node_fleet.proofs.mailboxes.Mailboxes.recall_one.Goals.{After-recall}

-- the mailbox in the slot, and what was taken back there
box : (c : After-recall) → slice_get c.args.self.now.boxes.items c.args.slot ≡ Some (Some c.in-Some.mailbox)
box c =
    let boxes : List (Option Mailbox) = c.args.self.now.boxes.items in
    box_read boxes c.args.slot (slice_get_within boxes c.args.slot c.requires.slot.0 c.requires.slot.1) c.index.result.now c.index.ensures c.in-Some.mailbox c.in-Some.is

there : (c : After-recall) → slice_get c.args.all.now.seats.items c.args.slot ≡ Some (Some c.in-Some-index_mut.back)
there c =
    let stood = c.requires.back c.args.slot c.in-Some.mailbox (box c) in
    read_at c.args.all.now.seats.items c.args.slot c.index_mut.result.now (Some stood.0) stood.1 c.index_mut.ensures.value ∙ ap Some c.in-Some-index_mut.is

pub returns-clause-back : goal.returns-clause-back
returns-clause-back c =
    let at = (goal.at.returns-clause-back c).After-recall in
    have_still c.args.self.now.boxes.items c.args.all.now.seats.items c.args.slot c.in-Some.mailbox c.in-Some-index_mut.back c.recall.new.all (box at) (there at) c.requires.back c.recall.ensures.same.0

pub returns-clause-same : goal.returns-clause-same
returns-clause-same c k =
    let at = (goal.at.returns-clause-same c).After-recall in
    back_same c.args.self.now.boxes.items c.args.all.now.seats.items c.args.slot c.in-Some.mailbox c.in-Some-index_mut.back c.recall.new.all (box at) (there at) c.recall.ensures.same.1 k

pub returns-clause-kept : goal.returns-clause-kept
returns-clause-kept c m has =
    subst (λ (o : Option (Option MailSeat)). AreKept (lists_of o)) (sym (there (goal.at.returns-clause-kept c).After-recall)) c.recall.ensures.kept
