use Rattle.std.proofs.Common.{length, rules}
use Rattle.drivers.specs.Parts.{parts_left}
use Rattle.drivers.proofs.Turns.{deliver_is}
use Rattle.drivers.proofs.names.deliver.Goals as goal

pub returns : goal.returns
returns c =
    let is = deliver_is (length c.args.events.now) c.in_ok-group.group c.in_ok-member.member (parts_left c.args.words) (parts_left c.take_id.new.self) (parts_left c.take_id-2.new.self)
    c.in_ok-group.ensures.number c.in_ok-member.ensures.number c.in_ok-line.line c.in_ok-line.place c.in_ok-line.ensures in
    rw is (search rules)
