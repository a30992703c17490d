use Rattle.std.proofs.Common.{arith}
use Rattle.drivers.proofs.NamedLines.{name_is}
use Rattle.drivers.proofs.named.name.Goals as goal

pub returns : goal.returns
returns c =
    name_is c.args.text.now c.args.events.now c.in_ok-line.line c.in_ok-place.place c.in_ok-events.field-0 c.in_ok-line.rest.now c.in_ok-after.field-0.now c.in_ok-place.rest.now c.in_ok-rest.rest.now
    c.in_ok-line.ensures c.in_ok-after.ensures c.in_ok-place.ensures c.in_ok-rest.ensures (omega arith) (omega arith) (omega arith) c.in_ok-events.was
