use Rattle.std.proofs.Common.{◌≡◌, drop}
use Rattle.volume_model.specs.Common.{each_weighs}
use Rattle.quorum_checker.specs.Items.{bare}
use Rattle.quorum_checker.proofs.weights.all_weigh.Given as goal

-- the children so far weigh something
abbrev pub invariant-loop-weight : goal.invariant-loop-weight
invariant-loop-weight g l = each_weighs (bare (drop l.weight-index l.of)) ≡ each_weighs (bare l.of)
