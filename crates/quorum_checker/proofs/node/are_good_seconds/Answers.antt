use Rattle.std.proofs.Common.{map, arith, refl, length-set}
use Rattle.quorum_checker.proofs.Places.{begun, good_turn_by}
use Rattle.quorum_checker.proofs.node.are_good_seconds.Goals as goal
use Rattle.std.proofs.lemmas.Grind.{common_steps}

pub loop-pair-init : goal.loop-pair-init
loop-pair-init c = record { left = begun c.args.bound 256 (map (λ p. p.1) c.args.pairs.now); room = refl }

pub loop-pair-preserved : goal.loop-pair-preserved
loop-pair-preserved c = grind (arith, common_steps, c.loop-pair-test.true, c.from-second.ensures, c.if-second-bound.false, c.if-seen-second.false, c.loop-pair.invariant.left, c.loop-pair.invariant.room, good_turn_by, length-set)
