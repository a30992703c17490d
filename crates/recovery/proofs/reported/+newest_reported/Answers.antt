use Rattle.std.proofs.Common.{List, length, take, drop, ◌-◌, ap, sym, ◌∙◌}
use Rattle.volume_model.specs.Common.{newest_with, contents_of}
use Rattle.lineage.specs.Lineage.{lineage_of}
use Rattle.hydration.specs.declared.copied.Copied.{Copied}
use Rattle.hydration.specs.Copies.{copies_in}
use Rattle.writer_core.specs.declared.group_state.GroupState.{GroupState}
use Rattle.writer_core.specs.GroupStates.{groups_of}
use Rattle.recovery.specs.Reported.{reports_in}
use Rattle.recovery.proofs.OneMore.{reports-first, newest-more}
use Rattle.recovery.proofs.reported.+newest_reported.Goals as goal

pub returns-in-len1-up : goal.returns-in-len1-up
returns-in-len1-up t c =
    let last = lineage_of c.args.last.now in
    let group_states : List GroupState = c.args.group_states.now in
    let first = c.first-item.result in
    let rest : List GroupState = take (length group_states - 1) (drop 1 group_states) in
    let all = reports-first group_states first c.in-len1-up.len_at_least c.first-item.is in
    c.newest_with.ensures
    ∙ ap (λ (xs : List Copied). newest_with (lineage_of c.newest_reported.result.now) (contents_of (copies_in xs))) c.as_slice.ensures.value
    ∙ ap (λ l. newest_with l (contents_of (copies_in first.copies.items))) c.newest_reported.ensures
    ∙ sym (ap (newest_with last) all ∙ newest-more last (contents_of (copies_in first.copies.items)) (reports_in (groups_of rest)))
