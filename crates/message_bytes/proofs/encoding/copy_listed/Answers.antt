use Rattle.message_bytes.proofs.Filled.{filled}
use Rattle.message_bytes.proofs.encoding.copy_listed.Goals as goal
use Rattle.std.proofs.Common.{rules}

pub returns-clause-text : goal.returns-clause-text
returns-clause-text c = search (rules, c.as_slice-bytes.ensures.value, c.in_ok-put_listed.ensures.text, c.put_at.ensures.front, c.put_at.ensures.back, filled)
