use Rattle.segment_core.proofs.Ready.{takes_prepared}
use Rattle.segment_core.proofs.segment.Segment.prepare_any.Goals as goal

pub returns-in-Write-clause-ready : goal.returns-in-Write-clause-ready
returns-in-Write-clause-ready c = takes_prepared c.prepare_write.new.self c.prepare_write.result c.prepare_write.ensures.ready
