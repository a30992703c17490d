-- The reports of one group more.
use Rattle.std.proofs.Common.{◌≡◌, ◌-◌, ◌<◌, List, [], ◌∷◌, ◌++◌, length, get_or, take, drop, refl, sym, ap, ◌∙◌, append_assoc, arith, take_all}
use Rattle.volume_model.specs.Common.{Contents, Lineage, newer, newest_with, with_found, with_live, contents_of, ClientGroup}
use Rattle.volume_model.specs.Lineage.{found_in}
use Rattle.hydration.specs.Copies.{copies_in}
use Rattle.writer_core.specs.declared.group_state.GroupState.{GroupState}
use Rattle.writer_core.specs.GroupStates.{groups_of}
use Rattle.recovery.specs.Reported.{reports_in}

pub reports-append : (xs ys : List ClientGroup) → reports_in (xs ++ ys) ≡ reports_in xs ++ reports_in ys
reports-append [] ys = refl
reports-append (g ∷ xs) ys = ap (λ l. contents_of g.reports ++ l) (reports-append xs ys) ∙ sym (append_assoc (contents_of g.reports) (reports_in xs) (reports_in ys))

-- the newest of reports of one group before others
pub newest-more : (last : Lineage) (reports : List Contents) (more : List Contents) → newest_with last (reports ++ more) ≡ newest_with (newest_with last more) reports
newest-more last [] more = refl
newest-more last (c ∷ reports) more = ap (newer c.lineage) (newest-more last reports more)

-- what is found in reports of one group before others
pub found-more : (lineage : Lineage) (reports : List Contents) (more : List Contents) → found_in lineage (reports ++ more) ≡ with_found lineage reports (found_in lineage more)
found-more lineage [] more = refl
found-more lineage (c ∷ reports) more = ap (with_live lineage c.records) (found-more lineage reports more)

-- the reports of the first group, and those of the others
pub reports-first : (group_states : List GroupState) (s : GroupState) → 0 < length group_states → s ≡ get_or group_states 0 s
    → reports_in (groups_of group_states) ≡ contents_of (copies_in s.copies.items) ++ reports_in (groups_of (take (length group_states - 1) (drop 1 group_states)))
reports-first [] s within is = absurd (omega arith)
reports-first (x ∷ rest) s within is =
    let many : length (x ∷ rest) - 1 ≡ length rest = omega arith in
    ap (λ (y : GroupState). contents_of (copies_in y.copies.items) ++ reports_in (groups_of rest)) (sym is)
    ∙ ap (λ l. contents_of (copies_in s.copies.items) ++ reports_in (groups_of l)) (sym (ap (λ n. take n rest) many ∙ take_all (length rest) rest (omega arith)))
