use Rattle.std.proofs.Common.{◌≡◌, ℕ, sym, ap, subst, ◌∙◌, slice_get, set}
use Rattle.volume_model.specs.Common.{Redo}
use Rattle.redo_record.specs.Common.{shared_redo}
use Rattle.segment_core.specs.declared.blocks.Blocks.{Blocks}
use Rattle.segment_core.specs.Blocks.{place_of, IsListReady}
use Rattle.segment_core.proofs.ListPlaces.{kept, ready}
use Rattle.segment_core.proofs.blocks.Blocks.prepare.Goals as goal

pub returns-in_err-make_room-clause-same : goal.returns-in_err-make_room-clause-same
returns-in_err-make_room-clause-same c b =
    let blocks : Blocks = c.place.new.self in
    let list : ℕ = c.in_ok-list.list in
    kept blocks list c.index_mut.result.now c.make_room.new.self (blocks.inside c.record.result.now.block list c.in_ok-list.ensures.place) c.index_mut.ensures.value c.make_room.ensures.same (place_of blocks b)
    ∙ c.place.ensures.same b

pub returns-in_err-clone-clause-same : goal.returns-in_err-clone-clause-same
returns-in_err-clone-clause-same c b =
    let blocks : Blocks = c.place.new.self in
    let list : ℕ = c.in_ok-list.list in
    kept blocks list c.index_mut.result.now c.make_room.new.self (blocks.inside c.record.result.now.block list c.in_ok-list.ensures.place) c.index_mut.ensures.value c.make_room.ensures.same (place_of blocks b)
    ∙ c.place.ensures.same b

pub returns-clause-same : goal.returns-clause-same
returns-clause-same c b =
    let blocks : Blocks = c.place.new.self in
    let list : ℕ = c.in_ok-list.list in
    kept blocks list c.index_mut.result.now c.make_room.new.self (blocks.inside c.record.result.now.block list c.in_ok-list.ensures.place) c.index_mut.ensures.value c.make_room.ensures.same (place_of blocks b)
    ∙ c.place.ensures.same b

pub returns-clause-room : goal.returns-clause-room
returns-clause-room c =
    let blocks : Blocks = c.place.new.self in
    let list : ℕ = c.in_ok-list.list in
    let r : Redo = shared_redo c.args.packet.now in
    let copied : shared_redo c.in_ok-clone.field-0 ≡ r = c.in_ok-clone.ensures.cases in
    record {
      found = ap (λ (z : Redo). place_of blocks z.block) (copied ∙ sym c.record.ensures) ∙ c.in_ok-list.ensures.place;
      ready = subst (λ (z : Redo). IsListReady (slice_get (set blocks.lists.items list c.make_room.new.self) list) c.in_ok-make_room.field-0 z) (sym copied)
          (ready blocks list c.index_mut.result.now c.make_room.new.self (blocks.inside c.record.result.now.block list c.in_ok-list.ensures.place) c.index_mut.ensures.value c.in_ok-make_room.field-0 r c.in_ok-make_room.ensures.ready);
    }
