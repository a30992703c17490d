use Rattle.std.proofs.Common.{List, length, ap, sym, ◌∙◌, arith}
use Rattle.volume_model.specs.Common.{Redo}
use Rattle.redo_record.specs.Common.{left_of, shared_redo}
use Rattle.segment_core.specs.Chains as chains
use Rattle.segment_core.proofs.Lines.{line-next, line-broken}
use Rattle.segment_core.proofs.line.is_line.Goals as goal

pub loop-packet-init : goal.loop-packet-init
loop-packet-init c = ap (chains.is_line 0) (sym c.records-left.ensures.records)

pub returns-then-prev_group-last : goal.returns-then-prev_group-last
returns-then-prev_group-last c =
    let r : Redo = shared_redo c.in-Some.packet.now in
    sym (c.loop-packet.invariant ∙ ap (chains.is_line c.loop-packet.last) c.in-Some.ensures.records ∙ line-broken c.loop-packet.last r (left_of c.next.new.self) (omega (arith, c.prev_group.ensures, c.if-prev_group-last.true)))

pub loop-packet-preserved : goal.loop-packet-preserved
loop-packet-preserved c =
    let r : Redo = shared_redo c.in-Some.packet.now in
    let rest : List Redo = left_of c.next.new.self in
    c.loop-packet.invariant ∙ ap (chains.is_line c.loop-packet.last) c.in-Some.ensures.records ∙ line-next c.loop-packet.last r rest (omega (arith, c.prev_group.ensures, c.if-prev_group-last.false)) ∙ ap (λ n. chains.is_line n rest) (sym c.lsn-last.ensures)

pub loop-packet-smaller : goal.loop-packet-smaller
loop-packet-smaller c = omega (arith, ap length c.in-Some.ensures.records)

pub returns : goal.returns
returns c = sym (c.loop-packet.invariant ∙ ap (chains.is_line c.loop-packet.last) c.in_default.ensures.records)
