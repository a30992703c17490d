use Rattle.std.proofs.Common.{arith}
use Rattle.std.proofs.lemmas.Slice.{drop-put_mid}
use Rattle.message_bytes.proofs.writing.put_at.Goals as goal
use Rattle.std.proofs.lemmas.Grind.{common_steps}

pub returns-clause-back : goal.returns-clause-back
returns-clause-back c = grind (arith, common_steps, c.copy_from_slice.ensures.after, drop-put_mid)
