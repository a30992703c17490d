use Rattle.std.proofs.Common.{Ok}
use Rattle.hydration.proofs.Fair.{kept-good}
use Rattle.hydration.proofs.Gathering.{none-with}
use Rattle.hydration.proofs.hydration.Hydration.prepare.Goals as goal
use Rattle.std.proofs.lemmas.Grind.{common_steps}
use Rattle.std.proofs.Common.{arith}

pub returns-in_ok-prepare_new-in-None-clause-copy : goal.returns-in_ok-prepare_new-in-None-clause-copy
returns-in_ok-prepare_new-in-None-clause-copy c = grind (arith, common_steps, c.pieces_from-kept.ensures, c.deref.ensures, c.deref-2.ensures, c.is_bad.ensures, c.if-is_bad.false, c.if-report-ge-MEMBERS.false, c.place.ensures, c.in-None.is, c.in_ok-prepare_new-in-None.ensures.copy, kept-good, Ok, none-with)
