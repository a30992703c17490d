use Rattle.std.proofs.Common.{sym}
use Rattle.drivers.proofs.Parsing.{no_verb}
use Rattle.drivers.proofs.line.verb_by.Goals as goal

pub returns-in-Err : goal.returns-in-Err
returns-in-Err c = sym (no_verb c.args.word.now c.in-Err.ensures.cases.0)
