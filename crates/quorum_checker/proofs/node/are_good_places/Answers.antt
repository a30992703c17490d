use Rattle.std.proofs.Common.{arith, refl, length-set}
use Rattle.quorum_checker.proofs.Places.{begun, good_turn}
use Rattle.quorum_checker.proofs.node.are_good_places.Goals as goal
use Rattle.std.proofs.lemmas.Grind.{common_steps}

pub loop-place-init : goal.loop-place-init
loop-place-init c = record { left = begun c.args.bound 256 c.args.places.now; room = refl }

pub loop-place-preserved : goal.loop-place-preserved
loop-place-preserved c = grind (arith, common_steps, c.loop-place-test.true, c.from-at.ensures, c.if-at-bound.false, c.if-seen-at.false, c.loop-place.invariant.left, c.loop-place.invariant.room, good_turn, length-set)
