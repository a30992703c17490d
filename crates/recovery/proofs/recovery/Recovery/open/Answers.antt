use Rattle.std.proofs.Common.{refl}
use Rattle.volume_model.specs.Common.{opened}
use Rattle.writer_core.proofs.Answering.{judged}
use Rattle.recovery.specs.Recoveries.{client_of, recovery_plan}
use Rattle.recovery.proofs.recovery.Recovery.open.Goals as goal

pub returns-in-Err-clause-opens : goal.returns-in-Err-clause-opens
returns-in-Err-clause-opens c = (judged c.in-Err.fault (opened (recovery_plan c.args.self) (client_of c.args.self)) c.in-Err.ensures.refusal, refl)
