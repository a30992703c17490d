use Rattle.std.proofs.Common.{◌≡◌, List, length, take, drop, ◌-◌, ap, sym, ◌∙◌, Ok, Err, IfOk}
use Rattle.volume_model.specs.Common.{with_found, contents_of}
use Rattle.volume_model.specs.Lineage.{found_in}
use Rattle.lineage.specs.Lineage.{lineage_of}
use Rattle.redo_record.specs.Common.{records_of}
use Rattle.hydration.specs.declared.copied.Copied.{Copied}
use Rattle.hydration.specs.Copies.{copies_in}
use Rattle.writer_core.specs.declared.group_state.GroupState.{GroupState}
use Rattle.writer_core.specs.GroupStates.{groups_of}
use Rattle.recovery.specs.Reported.{reports_in}
use Rattle.recovery.proofs.OneMore.{reports-first, found-more}
use Rattle.recovery.proofs.reported.+found_in.Goals as goal

pub returns-in_ok-found-in-len1-up : goal.returns-in_ok-found-in-len1-up
returns-in_ok-found-in-len1-up t c =
    let lineage = lineage_of c.args.lineage.now in
    let group_states : List GroupState = c.args.group_states.now in
    let first = c.first-item.result in
    let rest : List GroupState = take (length group_states - 1) (drop 1 group_states) in
    let found = c.in_ok-found-in-len1-up.found in
    let all = reports-first group_states first c.in-len1-up.len_at_least c.first-item.is in
    let whole = ap (λ (xs : List Copied). with_found lineage (contents_of (copies_in xs)) (records_of found)) c.as_slice.ensures.value
    ∙ ap (with_found lineage (contents_of (copies_in first.copies.items))) c.in_ok-found-in-len1-up.ensures
    ∙ sym (ap (found_in lineage) all ∙ found-more lineage (contents_of (copies_in first.copies.items)) (reports_in (groups_of rest))) in
    elim c.with_found.result as (λ r. IfOk r (λ set. records_of set ≡ with_found lineage (contents_of (copies_in c.as_slice.result.now)) (records_of found)) → IfOk r (λ set. records_of set ≡ found_in lineage (reports_in (groups_of group_states)))) [
      | Ok set ↦ λ h. h ∙ whole
      | Err e ↦ λ h. tt
    ] c.with_found.ensures
