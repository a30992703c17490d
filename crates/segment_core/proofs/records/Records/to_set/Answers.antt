use Rattle.std.proofs.Common.{List, sym, subst}
use Rattle.volume_model.specs.Common.{Redo}
use Rattle.segment_core.specs.Chains.{AreChainsOf}
use Rattle.segment_core.specs.Blocks.{IsIndexOf}
use Rattle.segment_core.proofs.records.Records.to_set.Goals as goal

pub invariant_of-self : goal.invariant_of-self
invariant_of-self c = record {
  chained = subst (λ (rs : List Redo). AreChainsOf rs c.args.self.now.chains) (sym c.share.ensures) c.args.self.now.chained;
  parted = subst (λ (rs : List Redo). ∥ IsIndexOf rs c.args.self.now.index ∥₁) (sym c.share.ensures) c.args.self.now.parted;
}
