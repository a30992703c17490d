use Rattle.std.proofs.Common.{◌-◌, ◌^◌, min, ap, ◌∙◌}
use Rattle.volume_model.specs.Common.{records_in}
use Rattle.recovery.specs.Reported.{reports_in}
use Rattle.recovery.proofs.Bounds.{found-most}
use Rattle.recovery.proofs.recovery.Recovery.reported.Goals as goal

pub returns : goal.returns
returns c =
    let self = c.args.self.now in
    found-most self.group_states.list.items self.found c.records_said.result c.steps_are_few.ensures
    (c.records_said.ensures ∙ ap (λ gs. min (records_in (reports_in gs)) (2 ^ 64 - 1)) c.as_slice.ensures.groups)
