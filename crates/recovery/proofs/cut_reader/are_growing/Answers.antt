use Rattle.std.proofs.Common.{◌≡◌, ◌∙◌, ◌<◌, ◌≤◌, ◌&&◌, nat_lt, List, [], ◌∷◌, refl, sym, ap, arith, le-ltb, lt-ltb}
use Rattle.volume_model.specs.Common.{added, Redo, last_lsn}
use Rattle.redo_record.specs.Common.{shared_redo, left_of}
use Rattle.writer_core.specs.Logs.{log_of_set, is_growing}
use Rattle.recovery.proofs.cut_reader.are_growing.Goals as goal
use Rattle.recovery.proofs.cut_reader.are_growing.Goals.{then-last-lsn, else-last-lsn}

pub loop-packet-init : goal.loop-packet-init
loop-packet-init c = ([], ap (λ (rs : List Redo). added rs []) c.records-left.ensures.records, refl, refl)

pub loop-packet-preserved : goal.loop-packet-preserved
loop-packet-preserved c =
    let older : List Redo = c.loop-packet.invariant.0 in
    let r : Redo = shared_redo c.in-Some.packet.now in
    let all : added (left_of c.next.new.self) (r ∷ older) ≡ log_of_set c.args.set.now = ap (λ (rs : List Redo). added rs older) (sym c.in-Some.ensures.records) ∙ c.loop-packet.invariant.1 in
    let grown : c.if-last-lsn.growing ≡ (nat_lt (last_lsn older) r.lsn && is_growing older) = elim c.if-last-lsn.branch [
      | then-last-lsn w ↦ (
          let up : last_lsn older < r.lsn = omega (arith, w.if-last-lsn.true, c.lsn.ensures, c.loop-packet.invariant.3) in
          w.growing-is ∙ c.loop-packet.invariant.2 ∙ ap (λ b. b && is_growing older) (sym (lt-ltb (last_lsn older) r.lsn up)))
      | else-last-lsn w ↦ (
          let low : r.lsn ≤ last_lsn older = omega (arith, w.if-last-lsn.false, c.lsn.ensures, c.loop-packet.invariant.3) in
          w.growing-is ∙ le-ltb c.loop-packet.last c.lsn.result w.if-last-lsn.false ∙ ap (λ b. b && is_growing older) (sym (le-ltb (last_lsn older) r.lsn low)))
    ] in
    (r ∷ older, all, grown, c.lsn-last.ensures)

pub returns : goal.returns
returns c =
    let older : List Redo = c.loop-packet.invariant.0 in
    c.loop-packet.invariant.2 ∙ ap is_growing (ap (λ (rs : List Redo). added rs older) (sym c.in_default.ensures.records) ∙ c.loop-packet.invariant.1)
