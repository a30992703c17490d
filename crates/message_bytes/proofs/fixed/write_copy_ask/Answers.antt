use Rattle.message_bytes.proofs.Back.{copy_ask_back}
use Rattle.message_bytes.proofs.fixed.write_copy_ask.Goals as goal
use Rattle.std.proofs.lemmas.Grind.{common_steps}
use Rattle.std.proofs.Common.{arith}

pub returns-clause-reads : goal.returns-clause-reads
returns-clause-reads c = grind (arith, common_steps, c.write_u32.ensures.fits, copy_ask_back)
