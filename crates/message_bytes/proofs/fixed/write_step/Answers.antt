use Rattle.wire.specs.Common.{place_of}
use Rattle.message_bytes.proofs.Back.{step_back}
use Rattle.message_bytes.proofs.fixed.write_step.Goals as goal
use Rattle.std.proofs.lemmas.Grind.{common_steps}
use Rattle.std.proofs.Common.{arith}

pub returns-clause-reads : goal.returns-clause-reads
returns-clause-reads c = grind (arith, common_steps, c.write_place.ensures.fits, (step_back c.args.step.now.group (place_of c.args.step.now.place) c.write_place.ensures.fits))
