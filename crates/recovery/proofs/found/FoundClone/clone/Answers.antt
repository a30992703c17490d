use Rattle.std.proofs.Common.{List, [], ap, refl, ◌∙◌}
use Rattle.volume_model.specs.Common.{added, Redo}
use Rattle.writer_core.specs.Logs.{is_growing}
use Rattle.recovery.proofs.found.FoundClone.clone.Goals as goal

pub invariant_of-result-clause-growing : goal.invariant_of-result-clause-growing
invariant_of-result-clause-growing c = ap (λ (rs : List Redo). is_growing (added rs [])) c.in_ok-clone.ensures.cases ∙ c.args.self.now.growing

pub returns : goal.returns
returns c = record {
  cases = record {
    same_log = ap (λ (rs : List Redo). added rs []) c.in_ok-clone.ensures.cases;
    same_cut = refl;
    same_lineage = c.in_ok-clone-2.ensures.cases;
  };
}
