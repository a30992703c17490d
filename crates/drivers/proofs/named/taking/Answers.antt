use Rattle.drivers.proofs.NamedLines.{takes}
use Rattle.drivers.proofs.named.taking.Goals as goal

pub returns : goal.returns
returns c =
    rw c.from-place.ensures
    (takes c.args.text.now c.in_ok-volume.rest.now c.in_ok-event.rest.now c.args.events.now c.in_ok-event.event c.in_ok-event.place c.in_ok-after_take.field-0.now c.in_ok-after.field-0.now
    c.in_ok-volume.volume c.in_ok-after_take.ensures (rw c.in_ok-after.ensures at c.in_ok-volume.ensures) c.in_ok-event.ensures)
