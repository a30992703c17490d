use Rattle.std.proofs.Common.{◌≡◌, List, refl, sym, subst}
use Rattle.volume_model.specs.Common.{Redo, with_record}
use Rattle.redo_record.specs.Common.{IsInOrder, shared_redo}
use Rattle.redo_record.proofs.Places.{in_order-with_record}
use Rattle.std.specs.Box.{with_value}
use Rattle.segment_core.specs.BlockList.{redos_in}
use Rattle.segment_core.specs.BlockRecords.{records_in}
use Rattle.segment_core.proofs.AppliedPages.{page-more, page-none}
use Rattle.segment_core.proofs.block_list.BlockList.add.Goals as goal
use Rattle.segment_core.proofs.block_list.BlockList.add.Goals.{in-Some+then-is_after, in-Some+else-is_after+in-Some-1, in-Some+else-is_after+in-None-1, in_default}

pub invariant_of-self : goal.invariant_of-self
invariant_of-self c =
    let r : Redo = shared_redo c.args.packet in
    let old : List Redo = redos_in c.args.self.now in
    let more : List Redo = records_in c.add.new.self in
    let ordered : more ≡ with_record r old → IsInOrder more = λ is. subst IsInOrder (sym is) (in_order-with_record r old c.args.self.now.in_order) in
    elim c.match-self.branch [
      | in-Some+then-is_after w ↦ (
          let is : more ≡ with_record r old = rw w.self-is at c.add.ensures in
          rw w.self-is (record {
            in_order = ordered is;
            all_applied = page-more old more r w.in-Some.page (with_value w.in-Some.page w.write_packet.new.page) (c.args.self.now.all_applied w.in-Some.page w.in-Some.is) (rw w.deref_mut.ensures.value at w.write_packet.ensures) (w.is_after.ensures old c.args.self.now.in_order w.last.ensures w.if-is_after.true) is;
          }))
      | in-Some+else-is_after+in-Some-1 w ↦ rw w.self-is (record { in_order = ordered (rw w.self-is at c.add.ensures); all_applied = page-none more _ refl })
      | in-Some+else-is_after+in-None-1 w ↦ rw w.self-is (record { in_order = ordered (rw w.self-is at c.add.ensures); all_applied = page-none more _ refl })
      | in_default w ↦ rw w.self-is (record { in_order = ordered (rw w.self-is at c.add.ensures); all_applied = page-none more _ w.in_default.is })
    ]
