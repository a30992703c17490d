use Rattle.message_bytes.proofs.Back.{write_back}
use Rattle.message_bytes.proofs.fixed.write_write.Goals as goal
use Rattle.std.proofs.Common.{rules}

pub returns-clause-reads : goal.returns-clause-reads
returns-clause-reads c = search (rules, c.write_head-at.ensures.volume, c.write_head-at.ensures.member, c.write_record.ensures.reads, write_back)
