use Rattle.std.proofs.Common.{◌+◌, ℕ, List, arith}
use Rattle.std.proofs.lemmas.Bool.{cases_lt}
use Rattle.std.proofs.lemmas.List.{get_or-map}
use Rattle.redo_record.specs.SharedRecord.{shared_redo}
use Rattle.redo_record.specs.declared.shared_record.SharedRecord.{SharedRecord}
use Rattle.redo_record.proofs.shared_list.is_group_chain.Goals as goal
use Rattle.std.proofs.lemmas.Grind.{common_steps}

pub loop-place-preserved : goal.loop-place-preserved
loop-place-preserved c i d h =
    let packets : List SharedRecord = c.args.packets.now in
    let place : ℕ = c.loop-place.place in
    grind (arith, common_steps, c.loop-place.invariant, c.loop-place-test.true, c.index-packets-place.is, c.index-packets-place-in-loop-place.is, c.prev_group.ensures, c.if-prev_group-lsn.false, c.lsn.ensures, (cases_lt (i + 1) place), (get_or-map shared_redo packets place c.index-packets-place.result d c.loop-place-test.true))
