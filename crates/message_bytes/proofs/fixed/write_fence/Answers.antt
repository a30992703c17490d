use Rattle.message_bytes.proofs.Back.{fence_back}
use Rattle.message_bytes.proofs.fixed.write_fence.Goals as goal
use Rattle.std.proofs.Common.{rules}

pub returns-clause-reads : goal.returns-clause-reads
returns-clause-reads c = search (rules, c.write_head.ensures.volume, c.write_head.ensures.member, fence_back)
