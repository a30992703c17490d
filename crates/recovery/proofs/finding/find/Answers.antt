use Rattle.std.proofs.Common.{◌≡◌, ◌<◌, List, Result, sym, ap, ap₂, ◌∙◌, subst}
use Rattle.volume_model.specs.declared.fault.Fault.{Fault}
use Rattle.volume_model.specs.Common.{Fails, Plan, cut_of, log_found, Lineage, extension, last_epoch, newest, ClientGroup}
use Rattle.volume_model.specs.Lineage.{found_in}
use Rattle.lineage.specs.Lineage.{lineage_of}
use Rattle.redo_record.specs.Common.{records_of}
use Rattle.writer_core.specs.Groups.{groups_in, group_states_plan}
use Rattle.recovery.specs.Reported.{reports_in}
use Rattle.recovery.specs.Finds.{live_records}
use Rattle.recovery.proofs.Older.{older-newest}
use Rattle.recovery.proofs.Leaves.{found-lineage, fails-new, is_value}
use Rattle.recovery.proofs.finding.find.Goals as goal

pub extend-requires-clause-later : goal.extend-requires-clause-later
extend-requires-clause-later c =
    let groups : List ClientGroup = groups_in c.args.group_states.now in
    let parent : lineage_of c.in_ok-parent.parent ≡ newest (reports_in groups) = c.in_ok-parent.ensures ∙ ap (λ gs. newest (reports_in gs)) c.as_slice.ensures.groups in
    subst (λ (l : Lineage). last_epoch l < c.args.volume) (sym parent) (older-newest c.args.volume groups c.requires.assigned c.requires.older)

pub returns-in-Ok-clause-lineage : goal.returns-in-Ok-clause-lineage
returns-in-Ok-clause-lineage c =
    let plan : Plan = group_states_plan c.args.group_states.now in
    let groups : List ClientGroup = groups_in c.args.group_states.now in
    let parent : lineage_of c.in_ok-parent.parent ≡ newest (reports_in groups) = c.in_ok-parent.ensures ∙ ap (λ gs. newest (reports_in gs)) c.as_slice.ensures.groups in
    let records : records_of c.in_ok-records.records ≡ live_records groups = c.in_ok-records.ensures ∙ ap₂ found_in parent (ap reports_in c.as_slice-2.ensures.groups) in
    let cut : c.in_ok-cut.cut ≡ cut_of (live_records groups) = is_value (cut_of (records_of c.in_ok-records.records)) c.in_ok-cut.cut c.in_ok-cut.ensures.cut ∙ ap cut_of records in
    let lal : c.lal.result ≡ plan.lal = c.lal.ensures ∙ ap (λ (p : Plan). p.lal) c.plan-2.ensures in
    sym (found-lineage groups (lineage_of c.in_ok-parent.parent) c.args.volume c.in_ok-cut.cut c.lal.result plan.lal parent cut lal) ∙ c.in-Ok.ensures

pub returns-in-Ok-clause-log : goal.returns-in-Ok-clause-log
returns-in-Ok-clause-log c =
    let groups : List ClientGroup = groups_in c.args.group_states.now in
    let parent : lineage_of c.in_ok-parent.parent ≡ newest (reports_in groups) = c.in_ok-parent.ensures ∙ ap (λ gs. newest (reports_in gs)) c.as_slice.ensures.groups in
    let records : records_of c.in_ok-records.records ≡ live_records groups = c.in_ok-records.ensures ∙ ap₂ found_in parent (ap reports_in c.as_slice-2.ensures.groups) in
    c.in_ok-cut.ensures.log ∙ ap log_found records

pub returns-clause-lineage : goal.returns-clause-lineage
returns-clause-lineage c =
    let plan : Plan = group_states_plan c.args.group_states.now in
    let groups : List ClientGroup = groups_in c.args.group_states.now in
    let parent : lineage_of c.in_ok-parent.parent ≡ newest (reports_in groups) = c.in_ok-parent.ensures ∙ ap (λ gs. newest (reports_in gs)) c.as_slice.ensures.groups in
    let records : records_of c.in_ok-records.records ≡ live_records groups = c.in_ok-records.ensures ∙ ap₂ found_in parent (ap reports_in c.as_slice-2.ensures.groups) in
    let cut : c.in_ok-cut.cut ≡ cut_of (live_records groups) = is_value (cut_of (records_of c.in_ok-records.records)) c.in_ok-cut.cut c.in_ok-cut.ensures.cut ∙ ap cut_of records in
    let lal : c.lal.result ≡ plan.lal = c.lal.ensures ∙ ap (λ (p : Plan). p.lal) c.plan-2.ensures in
    subst (λ (defined : Result Lineage Fault). Fails c.in-Err.fault defined)
    (found-lineage groups (lineage_of c.in_ok-parent.parent) c.args.volume c.in_ok-cut.cut c.lal.result plan.lal parent cut lal)
    (fails-new lineage_of c.in-Err.fault (extension (lineage_of c.in_ok-parent.parent) c.args.volume c.in_ok-cut.cut c.lal.result) c.in-Err.ensures)
