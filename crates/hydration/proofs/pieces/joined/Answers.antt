use Rattle.std.proofs.Common.{IsPermutation, subst, sym}
use Rattle.hydration.proofs.Bringing.{in-any-order}
use Rattle.hydration.proofs.pieces.joined.Goals as goal

pub returns : goal.returns
returns c =
    in-any-order c.args.parts.items c.deref.result.now c.join.result (subst (IsPermutation c.args.parts.items) (sym c.deref.ensures.value) c.sort_unstable_by_key.ensures.permutation) c.join.ensures
