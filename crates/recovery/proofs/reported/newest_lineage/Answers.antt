use Rattle.std.proofs.Common.{◌≡◌, ap, ◌∙◌}
use Rattle.volume_model.specs.Common.{newest, newest_with}
use Rattle.lineage.specs.Lineage.{lineage_of}
use Rattle.hydration.proofs.CopiesMore.{copied}
use Rattle.writer_core.specs.GroupStates.{groups_of}
use Rattle.recovery.specs.Reported.{reports_in}
use Rattle.recovery.proofs.reported.newest_lineage.Goals as goal

pub returns : goal.returns
returns c =
    let reports = reports_in (groups_of c.args.group_states.now) in
    let is : lineage_of c.newest_reported.result.now ≡ newest reports = c.newest_reported.ensures ∙ ap (λ l. newest_with l reports) c.empty-none.ensures in
    copied _ c.clone.result is c.clone.ensures.cases
