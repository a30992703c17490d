use denote.Param.Send.{sendable}
use Rattle.drivers.proofs.Sending.{worker_field}
use Rattle.drivers.proofs.threads.start.Goals as goal

pub spawn-requires-send-F : goal.spawn-requires-send-F
spawn-requires-send-F g c κs within = search (sendable, worker_field, c.type_bounds.sync-R) depth 12
