use Rattle.std.proofs.Common.{subst, sym}
use Rattle.hydration.specs.Changes.{CanChange}
use Rattle.hydration.specs.declared.kept_copy.KeptCopy.{KeptCopy}
use Rattle.hydration.specs.Hydration.{CanChangeAt, CanKeep}
use Rattle.hydration.proofs.Gathering.{pieces-changed}
use Rattle.hydration.proofs.hydration.Hydration.keep.Goals as goal
use Rattle.std.proofs.lemmas.Grind.{common_steps}
use Rattle.std.proofs.Common.{arith}

pub apply-requires : goal.apply-requires
apply-requires c =
    let can : CanChangeAt c.args.self.now c.in-At.place c.in-At.change = subst (CanKeep c.args.self.now) c.in-At.is c.requires in
    subst (λ (copy : KeptCopy). CanChange copy.pieces c.in-At.change) (sym c.index_mut.ensures.value) (can.can c.index_mut.result.now)

pub returns-in-At : goal.returns-in-At
returns-in-At c = grind (arith, common_steps, c.in-At.is, c.requires, c.index_mut.ensures.value, c.apply.ensures, pieces-changed)
