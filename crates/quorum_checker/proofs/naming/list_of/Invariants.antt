use Rattle.std.proofs.Common.{◌≡◌}
use Rattle.std.specs.FinSet as set
use Rattle.volume_model.specs.Common.{each_below}
use Rattle.quorum_checker.proofs.naming.list_of.Given as goal

abbrev pub invariant-loop-member : goal.invariant-loop-member
invariant-loop-member l = l.list.items ≡ each_below l.member (set.contains l.members) (λ x. x)
