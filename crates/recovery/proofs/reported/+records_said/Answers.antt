use Rattle.std.proofs.Common.{◌≡◌, ◌+◌, ◌-◌, ◌^◌, List, length, min, take, drop, ap, ◌∙◌}
use Rattle.volume_model.specs.Common.{records_in, Contents, contents_of}
use Rattle.hydration.specs.declared.copied.Copied.{Copied}
use Rattle.hydration.specs.Copies.{copies_in}
use Rattle.writer_core.specs.declared.group_state.GroupState.{GroupState}
use Rattle.writer_core.specs.GroupStates.{groups_of}
use Rattle.recovery.specs.Reported.{reports_in}
use Rattle.recovery.proofs.OneMore.{reports-first}
use Rattle.recovery.proofs.Bounds.{records_in-append, counted-more}
use Rattle.recovery.proofs.reported.+records_said.Goals as goal

pub returns-in-len1-up : goal.returns-in-len1-up
returns-in-len1-up t c =
    let group_states : List GroupState = c.args.group_states.now in
    let first = c.first-item.result in
    let rest : List GroupState = take (length group_states - 1) (drop 1 group_states) in
    let own : List Contents = contents_of (copies_in first.copies.items) in
    let all : records_in (reports_in (groups_of group_states)) ≡ records_in own + records_in (reports_in (groups_of rest)) =
    ap records_in (reports-first group_states first c.in-len1-up.len_at_least c.first-item.is) ∙ records_in-append own (reports_in (groups_of rest)) in
    let counted : c.records_in.result ≡ min (records_in own) (2 ^ 64 - 1) = c.records_in.ensures ∙ ap (λ (xs : List Copied). min (records_in (contents_of (copies_in xs))) (2 ^ 64 - 1)) c.as_slice.ensures.value in
    counted-more (2 ^ 64 - 1) (records_in (reports_in (groups_of group_states))) (records_in own) (records_in (reports_in (groups_of rest))) c.records_said.result c.records_in.result c.saturating_add.result
    all c.records_said.ensures counted c.saturating_add.ensures
