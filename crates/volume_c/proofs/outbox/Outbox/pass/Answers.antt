use Rattle.std.proofs.Common.{◌≤◌, ◌+◌, length, sym, ◌∙◌, arith, drop-drop}
use Rattle.wire.specs.Common.{listed}
use Rattle.volume_c.proofs.Left.{left-last}
use Rattle.volume_c.proofs.outbox.Outbox.pass.Goals as goal

pub returns-then-count-self-gt1 : goal.returns-then-count-self-gt1
returns-then-count-self-gt1 c = sym (drop-drop 1 c.args.self.now.next (listed c.args.self.now.messages))

pub returns : goal.returns
returns c =
    let xs = listed c.args.self.now.messages in
    let last : length xs ≤ c.args.self.now.next + 1 = omega arith in
    c.free.ensures ∙ left-last xs c.args.self.now.next last
