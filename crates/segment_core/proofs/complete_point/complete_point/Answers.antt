use Rattle.std.proofs.Common.{◌≡◌, ◌++◌, [], ◌∷◌, List, length, refl, sym, ap, ◌∙◌, subst, inl, arith}
use Rattle.volume_model.specs.Common.{IsIn, Redo}
use Rattle.redo_record.specs.Common.{ComesAfter, records_of, left_of, shared_redo}
use Rattle.segment_core.proofs.Counting.{IsCounted, counted-none, counted-linked, counted-apart, counted-all, linked-found, linked-not}
use Rattle.segment_core.proofs.Rises.{shared_redo-falls, runs-fall}
use Rattle.segment_core.specs.Chains.{IsLinkedTo}
use Rattle.segment_core.proofs.complete_point.complete_point.Goals as goal
use Rattle.segment_core.proofs.complete_point.complete_point.Goals.{then-before-eq0-via-then-before-eq0, then-before-eq0-via-else-before-eq0+then-is_some}

pub loop-packet-init : goal.loop-packet-init
loop-packet-init c =
    let all : List Redo = records_of c.args.set.now in
    subst (λ (rs : List Redo). IsCounted all (left_of c.records-left.result) rs 0) (sym c.new-grounded.ensures)
    (subst (λ (rs : List Redo). IsCounted all rs [] 0) (sym c.records-left.ensures.records) (counted-none all c.args.set.now.in_order))

pub push-requires : goal.push-requires
push-requires c =
    let r : Redo = shared_redo c.in-Some.packet.now in
    let here : IsIn r (left_of c.loop-packet.left) = subst (IsIn r) (sym c.in-Some.ensures.records) (inl refl) in
    subst (ComesAfter (records_of c.loop-packet.grounded)) (sym c.in_ok-clone.ensures.cases) (c.loop-packet.invariant.after r here)

pub loop-packet-preserved-in-Some : goal.loop-packet-preserved-in-Some
loop-packet-preserved-in-Some c =
    let all : List Redo = records_of c.args.set.now in
    let rest : List Redo = left_of c.next.new.self in
    let grounded : List Redo = records_of c.loop-packet.grounded in
    let r : Redo = shared_redo c.in-Some.packet.now in
    let counted : IsCounted all (r ∷ rest) grounded c.loop-packet.point = subst (λ (rs : List Redo). IsCounted all rs grounded c.loop-packet.point) c.in-Some.ensures.records c.loop-packet.invariant in
    let linked : IsLinkedTo grounded r = elim c.then-before-eq0.branch [
      | then-before-eq0-via-then-before-eq0 w ↦ inl (sym c.prev_group-before.ensures ∙ w.if-before-eq0.true)
      | then-before-eq0-via-else-before-eq0+then-is_some w ↦ linked-found grounded r c.prev_group-before.result w.record_at.result c.prev_group-before.ensures w.record_at.ensures (sym w.is_some.ensures ∙ w.if-is_some.true)
    ] in
    let more : records_of c.push.new.self ≡ grounded ++ r ∷ [] = c.in_ok-push.ensures.ok ∙ ap (λ (q : Redo). grounded ++ q ∷ []) c.in_ok-clone.ensures.cases in
    subst (λ (rs : List Redo). IsCounted all rest rs c.lsn-point.result) (sym more) (subst (IsCounted all rest (grounded ++ r ∷ [])) (sym c.lsn-point.ensures)
    (counted-linked all rest grounded r c.loop-packet.point counted linked))

pub loop-packet-preserved : goal.loop-packet-preserved
loop-packet-preserved c =
    let all : List Redo = records_of c.args.set.now in
    let grounded : List Redo = records_of c.loop-packet.grounded in
    let r : Redo = shared_redo c.in-Some.packet.now in
    let counted : IsCounted all (r ∷ left_of c.next.new.self) grounded c.loop-packet.point = subst (λ (rs : List Redo). IsCounted all rs grounded c.loop-packet.point) c.in-Some.ensures.records c.loop-packet.invariant in
    counted-apart all (left_of c.next.new.self) grounded r c.loop-packet.point counted (shared_redo-falls c.in-Some.packet.now)
    (linked-not grounded r c.prev_group-before.result c.record_at.result c.prev_group-before.ensures c.record_at.ensures (sym c.is_some.ensures ∙ c.if-is_some.false) c.if-before-eq0.false)

pub loop-packet-smaller : goal.loop-packet-smaller
loop-packet-smaller c = omega (arith, ap length c.in-Some.ensures.records)

pub returns : goal.returns
returns c = counted-all (records_of c.args.set.now) (left_of c.loop-packet.left) (records_of c.loop-packet.grounded) c.loop-packet.point (runs-fall c.args.set.now.runs.items) c.loop-packet.invariant c.in_default.ensures.records
