use Rattle.std.proofs.Common.{◌≡◌, true}
use Rattle.writer_core.specs.Groups.{groups_in}
use Rattle.writer_core.specs.GroupStates.{counted_in}
use Rattle.recovery.specs.Cuts.{are_older}
use Rattle.recovery.proofs.Older.{older-counted}
use Rattle.recovery.proofs.Views.{either}
use Rattle.recovery.proofs.recovery.Recovery.take_ack.Goals as goal

pub invariant_of-self-clause-older : goal.invariant_of-self-clause-older
invariant_of-self-clause-older c =
    let self = c.args.self.now in
    let ack = c.args.ack.now in
    let groups = groups_in self.group_states in
    either c.count.result (λ gs. are_older self.volume gs ≡ true) (groups_in c.count.new.self) (counted_in groups ack.group ack.from ack.scl) groups c.count.ensures.counted c.count.ensures.same
    (older-counted self.volume groups ack.group ack.from ack.scl self.older) self.older
