use Rattle.message_bytes.proofs.Back.{page_ask_back}
use Rattle.message_bytes.proofs.fixed.write_page_ask.Goals as goal
use Rattle.std.proofs.Common.{rules}

pub returns-clause-reads : goal.returns-clause-reads
returns-clause-reads c = search (rules, c.write_head-at.ensures.volume, c.write_head-at.ensures.member, c.write_u32-at.ensures.fits, c.write_u64.ensures.fits, page_ask_back)
