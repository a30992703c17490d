use Rattle.drivers.proofs.NamedLines.{delivers}
use Rattle.drivers.proofs.named.delivery.Goals as goal

pub returns : goal.returns
returns c =
    rw c.from-place.ensures
    (delivers c.args.text.now c.in_ok-group.rest.now c.in_ok-event.rest.now c.args.events.now c.in_ok-event.event c.in_ok-event.place c.in_ok-after_deliver.field-0.now c.in_ok-member.rest.now
    c.in_ok-group.group c.in_ok-member.member c.in_ok-after_deliver.ensures c.in_ok-group.ensures.0 c.in_ok-group.ensures.1 c.in_ok-member.ensures.0 c.in_ok-member.ensures.1 c.in_ok-event.ensures)
