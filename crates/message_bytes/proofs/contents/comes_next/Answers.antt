use Rattle.std.proofs.Common.{◌∙◌, ◌-◌, ◌<◌, ◌∷◌, [], List, length, sym, arith, refl}
use Rattle.std.proofs.lemmas.Option.{slice_get_within, get_or_from_slice_get}
use Rattle.volume_model.specs.Common.{Redo}
use Rattle.redo_record.specs.Common.{IsInOrder, records_of, shared_redo}
use Rattle.redo_record.proofs.Places.{before_from}
use Rattle.redo_record.proofs.Rows.{row-in_order}
use Rattle.message_bytes.proofs.Next.{next-last}
use Rattle.message_bytes.proofs.contents.comes_next.Goals as goal
use Rattle.std.proofs.lemmas.Grind.{common_steps}

-- one record is in order
one : (r : Redo) → IsInOrder (r ∷ [])
one r i j d below within = absurd (omega (arith, below, within))

pub returns-in-Some-clause-is : goal.returns-in-Some-clause-is
returns-in-Some-clause-is c =
    let own : List Redo = records_of c.args.set.now in
    let a : Redo = shared_redo c.in-Some.last.now in
    let r : Redo = shared_redo c.args.packet.now in
    let place : length own - 1 < length own = slice_get_within own (length own - 1) a (sym c.in-Some.ensures) in
    grind (arith, common_steps, c.is_before.ensures, c.in-Some.ensures, (next-last own r a (omega (arith, place))), (get_or_from_slice_get own (length own - 1) a a (sym c.in-Some.ensures)))

pub returns-in-Some-clause-in_order : goal.returns-in-Some-clause-in_order
returns-in-Some-clause-in_order c h =
    let own : List Redo = records_of c.args.set.now in
    let a : Redo = shared_redo c.in-Some.last.now in
    let r : Redo = shared_redo c.args.packet.now in
    row-in_order own (r ∷ []) a r c.args.set.now.in_order (one r) c.in-Some.ensures refl (before_from a r (sym c.is_before.ensures ∙ h))
