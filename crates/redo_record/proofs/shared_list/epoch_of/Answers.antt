use Rattle.std.proofs.Common.{◌≡◌, ℕ, List, map, arith}
use Rattle.std.proofs.lemmas.Bool.{cases_lt}
use Rattle.std.proofs.lemmas.List.{get_or-map, length-map}
use Rattle.volume_model.specs.Common.{Redo}
use Rattle.redo_record.specs.SharedRecord.{shared_redo}
use Rattle.redo_record.specs.declared.shared_record.SharedRecord.{SharedRecord}
use Rattle.redo_record.proofs.Linked.{known_epoch-some}
use Rattle.redo_record.proofs.Places.{list-all}
use Rattle.redo_record.proofs.shared_list.epoch_of.Goals as goal
use Rattle.std.proofs.lemmas.Grind.{common_steps}

pub loop-packet-preserved : goal.loop-packet-preserved
loop-packet-preserved c k d h =
    let packets : List SharedRecord = c.args.packets.now in
    let i : ℕ = c.loop-packet.packet-index in
    grind (arith, common_steps, c.loop-packet.invariant, c.loop-packet-test.true, c.packet-item.is, c.volume_epoch.ensures, c.if-volume_epoch.false, (cases_lt k i), (get_or-map shared_redo packets i c.packet-item.result d c.loop-packet-test.true))

pub returns : goal.returns
returns c =
    let packets : List SharedRecord = c.args.packets.now in
    let known : ℕ = c.volume_epoch-volume_epoch.result in
    known_epoch-some known (map shared_redo packets) (list-all (λ (r : Redo). r.volume ≡ known) (map shared_redo packets) (λ k d l. c.loop-packet.invariant k d (omega (arith, c.loop-packet-test.false, length-map packets shared_redo))))
