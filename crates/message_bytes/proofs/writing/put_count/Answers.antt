use Rattle.std.proofs.Common.{arith}
use Rattle.message_bytes.proofs.Again.{set_again}
use Rattle.message_bytes.proofs.writing.put_count.Goals as goal
use Rattle.std.proofs.lemmas.Grind.{common_steps}

pub returns-clause-reads : goal.returns-clause-reads
returns-clause-reads c = grind (arith, common_steps, c.in_ok-count.ensures.few, c.len.ensures, c.read_back.ensures, set_again)
