use Rattle.std.proofs.Common.{refl}
use Rattle.drivers.proofs.examples.say_their_lines.Goals as goal

pub returns : goal.returns
returns c = record {
  issues = refl;
  delivers = refl;
  waits = refl;
  restarts = refl;
  assigns = refl;
  advances = refl;
  refreshes = refl;
  grows = refl;
  takes = refl;
  cuts = refl;
  opens = refl;
  resends = refl;
  reads = refl;
  hydrates = refl;
  offers = refl;
  comments = refl;
  empty = refl;
  two_spaces = refl;
  leading_zero = refl;
  later_line = refl;
  no_change = refl;
}
