use Rattle.std.proofs.lemmas.List.{take_rest}
use Rattle.drivers.proofs.Places.{cut_at, uncut}
use Rattle.drivers.proofs.parts.split_first.Goals as goal

pub returns-in-Some : goal.returns-in-Some
returns-in-Some c = rw take_rest (cut_at c.args.separator c.args.text.now c.in-Some.at c.in-Some.ensures)

pub returns-in-None : goal.returns-in-None
returns-in-None c = uncut c.args.separator c.args.text.now c.in-None.ensures
