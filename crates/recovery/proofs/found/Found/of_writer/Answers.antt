use Rattle.std.proofs.Common.{◌≡◌, List, [], ap, ◌∙◌}
use Rattle.volume_model.specs.Common.{added, last_cut, Redo}
use Rattle.writer_core.specs.Logs.{log_of_set, is_growing}
use Rattle.writer_core.specs.Writers.{client_of}
use Rattle.writer_core.proofs.Joined.{begun-grows}
use Rattle.recovery.proofs.found.Found.of_writer.Goals as goal

pub invariant_of-result-clause-growing : goal.invariant_of-result-clause-growing
invariant_of-result-clause-growing c =
    let same : log_of_set c.in_ok-clone.field-0 ≡ (client_of c.args.writer.now).found = ap (λ (rs : List Redo). added rs []) c.in_ok-clone.ensures.cases ∙ c.found.ensures in
    ap is_growing same ∙ begun-grows c.args.writer.now.log

pub returns : goal.returns
returns c = record {
  log_is = ap (λ (rs : List Redo). added rs []) c.in_ok-clone.ensures.cases ∙ c.found.ensures;
  cut_is = c.last_cut.ensures ∙ ap last_cut c.lineage.ensures;
  lineage_is = c.in_ok-clone-2.ensures.cases ∙ c.lineage-2.ensures;
}
