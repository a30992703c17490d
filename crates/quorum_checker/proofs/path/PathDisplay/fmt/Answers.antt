use Rattle.std.proofs.Common.{arith, codes}
use Rattle.std.proofs.Output.{has_written_append, has_written_of_eq}
use Rattle.quorum_checker.proofs.Written.{text_more}
use Rattle.quorum_checker.proofs.path.PathDisplay.fmt.Goals as goal
use Rattle.std.proofs.lemmas.Grind.{common_steps}

pub loop-n-preserved : goal.loop-n-preserved
loop-n-preserved g c = grind (arith, common_steps, c.branch-next.ensures, c.loop-n.invariant.end, c.loop-n.invariant.written, has_written_of_eq, codes, text_more, has_written_append)
