use Rattle.std.proofs.Common.{◌≡◌, ◌<◌, true, List, ℕ, drop, sym, ap, ◌∙◌, arith, true≢false}
use Rattle.volume_model.specs.Common.{Redo, scl, with_record, GroupLinksFall}
use Rattle.redo_record.specs.Common.{records_of, runs_of, index_of, shared_redo}
use Rattle.segment_core.specs.Chains as chains
use Rattle.segment_core.proofs.Chained.{scl-above}
use Rattle.segment_core.proofs.Lines.{scl-line}
use Rattle.segment_core.proofs.Rises.{runs-fall, one_more_falls}
use Rattle.segment_core.proofs.chains.Chains.with_record.Goals as goal
use Rattle.segment_core.proofs.chains.Chains.with_record.Goals.{then-self, else-self}

pub returns-then-before-self : goal.returns-then-before-self
returns-then-before-self c are =
    let records : List Redo = records_of c.args.set.now in
    let r : Redo = shared_redo c.args.packet.now in
    let fall : GroupLinksFall (with_record r records) = one_more_falls c.args.packet.now records (runs-fall c.args.set.now.runs.items) in
    let above : scl records < r.prev_group = omega (arith, c.prev_group-before.ensures, c.if-before-self.true, are.point) in
    record {
      line = λ e. elim c.if-self.branch [
        | then-self w ↦ w.keeps_line-is_line.ensures (sym w.is_line-is ∙ e) (are.line w.if-self.true)
        | else-self w ↦ absurd (true≢false (sym e ∙ w.is_line-is ∙ w.if-self.false))
      ];
      point = are.point ∙ scl-above r records fall above;
    }

pub returns-then-before-self-2 : goal.returns-then-before-self-2
returns-then-before-self-2 c are =
    let records : List Redo = records_of c.args.set.now in
    let r : Redo = shared_redo c.args.packet.now in
    let i : ℕ = index_of (runs_of c.args.set.now) c.args.place in
    let fall : GroupLinksFall (with_record r records) = one_more_falls c.args.packet.now records (runs-fall c.args.set.now.runs.items) in
    let old : c.args.self.now.is_line ≡ true = elim c.if-self.branch [
      | then-self w ↦ w.if-self.true
      | else-self w ↦ absurd (true≢false (sym c.if-is_line.true ∙ w.is_line-is ∙ w.if-self.false))
    ] in
    let new : chains.is_line 0 (with_record r records) ≡ true = elim c.if-self.branch [
      | then-self w ↦ w.keeps_line-is_line.ensures (sym w.is_line-is ∙ c.if-is_line.true) (are.line w.if-self.true)
      | else-self w ↦ absurd (true≢false (sym c.if-is_line.true ∙ w.is_line-is ∙ w.if-self.false))
    ] in
    let at : r.prev_group ≡ scl records = sym c.prev_group-before.ensures ∙ c.if-before-self-2.true ∙ are.point in
    record {
      line = λ e. new;
      point = c.chain_end.ensures ∙ ap (λ (n : ℕ). chains.chain_end n (drop i records)) c.lsn.ensures ∙ scl-line r records i fall c.requires.stands.joins (are.line old) new at;
    }
