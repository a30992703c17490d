use Rattle.message_bytes.proofs.Back.{ack_back}
use Rattle.message_bytes.proofs.fixed.write_ack.Goals as goal
use Rattle.std.proofs.Common.{rules}

pub returns-clause-reads : goal.returns-clause-reads
returns-clause-reads c = search (rules, c.write_head-at.ensures.volume, c.write_head-at.ensures.member, c.write_u64.ensures.fits, ack_back)
