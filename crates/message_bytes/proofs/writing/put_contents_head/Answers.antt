use Rattle.wire.specs.Common.{contents_of}
use Rattle.message_bytes.proofs.Again.{contents_again}
use Rattle.message_bytes.proofs.writing.put_contents_head.Goals as goal

pub returns-clause-reads : goal.returns-clause-reads
returns-clause-reads c = λ rest. contents_again (contents_of c.args.contents.now) rest c.in_ok-put_lineage.ensures.reads c.in_ok-put_count.ensures.reads
