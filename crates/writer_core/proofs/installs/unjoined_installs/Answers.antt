use Rattle.std.proofs.Common.{ℕ, Bool, not, lt-ltb, le-ltb}
use Rattle.writer_core.proofs.Speaking.{messages-more, messages-none, place-is, unjoined-is}
use Rattle.writer_core.proofs.installs.unjoined_installs.Goals as goal
use Rattle.std.proofs.lemmas.Grind.{common_steps}
use Rattle.std.proofs.Common.{arith}

pub loop-group-preserved : goal.loop-group-preserved
loop-group-preserved c = grind (arith, common_steps, c.loop-group-test.true, c.new-none.ensures, c.if-epoch-place.branch, c.loop-group.invariant, c.from.ensures, c.epoch.ensures, ℕ, Bool, messages-more, unjoined-is, lt-ltb, not, place-is, messages-none, le-ltb)
