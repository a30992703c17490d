use Rattle.std.proofs.Common.{arith}
use Rattle.world.proofs.Messages.{numbered-read, numbered-none}
use Rattle.world.proofs.numbering.message_at.Goals as goal
use Rattle.std.proofs.lemmas.Grind.{common_steps}

pub returns-then-number-eq0 : goal.returns-then-number-eq0
returns-then-number-eq0 c = grind (arith, common_steps, numbered-none)

pub returns : goal.returns
returns c = numbered-read c.args.messages.now c.args.number c.index-messages-number.result (omega arith) c.if-number-messages.false c.index-messages-number.is
