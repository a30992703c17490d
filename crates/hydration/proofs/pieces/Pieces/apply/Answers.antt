use Rattle.std.proofs.Common.{vec_capacity, subst}
use Rattle.hydration.specs.Changes.{CanChange}
use Rattle.hydration.proofs.Marks.{marks-within, marked-more, once-added}
use Rattle.hydration.proofs.pieces.Pieces.apply.Goals as goal
use Rattle.std.proofs.lemmas.Grind.{common_steps}
use Rattle.std.proofs.Common.{arith}

pub index_mut-requires : goal.index_mut-requires
index_mut-requires c = marks-within c.args.self.now c.in-Append.kept (subst (CanChange c.args.self.now) c.in-Append.is c.requires) c.from.result c.from.ensures

pub invariant_of-self : goal.invariant_of-self
invariant_of-self c = grind (arith, common_steps, c.in-Append.is, c.requires, c.push.ensures.items, c.push.ensures.succeeds, c.from.ensures, vec_capacity, once-added, marked-more)
