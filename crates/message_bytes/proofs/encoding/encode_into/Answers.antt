use Rattle.std.proofs.Common.{arith, take_all, take_at}
use Rattle.message_bytes.proofs.Back.{message_again}
use Rattle.message_bytes.proofs.Filled.{read_back}
use Rattle.message_bytes.proofs.encoding.encode_into.Goals as goal
use Rattle.std.proofs.lemmas.Grind.{common_steps}

pub returns-then-len-eq0-clause-reads : goal.returns-then-len-eq0-clause-reads
returns-then-len-eq0-clause-reads c = grind (arith, common_steps, c.put_listed.ensures.text, c.put_listed.ensures.reads, read_back)

pub returns-clause-reads : goal.returns-clause-reads
returns-clause-reads c = grind (arith, common_steps, c.in_ok-resize.ensures.len, c.write_fixed.ensures.text, c.write_fixed.ensures.reads, take_at, take_all, message_again)
