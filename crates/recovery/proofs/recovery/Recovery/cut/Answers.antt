use Rattle.std.proofs.Common.{refl}
use Rattle.volume_model.specs.Common.{ClientAnswer, cut_client}
use Rattle.recovery.specs.Finds.{is_spent}
use Rattle.recovery.specs.Recoveries.{client_of, found_step, recovery_groups, recovery_plan, recovery_volume}
use Rattle.writer_core.specs.Writers.{acted}
use Rattle.writer_core.proofs.Answering.{same-refusal}
use Rattle.recovery.proofs.recovery.Recovery.cut.Goals as goal

pub returns-in-Err-clause-answers : goal.returns-in-Err-clause-answers
returns-in-Err-clause-answers c =
    let self = c.args.self.now in
    let defined : ClientAnswer = cut_client (recovery_plan self) (recovery_volume self) (client_of self) in
    same-refusal is_spent (found_step (recovery_volume self)) acted c.in-Err.fault defined (recovery_groups self) (recovery_groups self) (client_of self) (client_of self) (λ e. refl) c.in-Err.ensures
