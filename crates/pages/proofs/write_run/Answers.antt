use Rattle.pages.proofs.Parted.{page_parted}
use Rattle.pages.proofs.write_run.Goals as goal
use Rattle.std.proofs.lemmas.Grind.{common_steps}
use Rattle.std.proofs.Common.{arith}

pub loop-rest-preserved : goal.loop-rest-preserved
loop-rest-preserved c = grind (arith, common_steps, c.write_ahead.ensures, c.split_at.ensures.by_index.0, c.loop-rest.invariant.1, page_parted)
