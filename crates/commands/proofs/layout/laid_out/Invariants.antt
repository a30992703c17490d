use Rattle.std.proofs.Common.{take}
use Rattle.commands.proofs.Layouts.{AreAlike}
use Rattle.commands.proofs.layout.laid_out.Given as goal

-- the bytes so far, with and without line breaks
abbrev pub invariant-loop-i : goal.invariant-loop-i
invariant-loop-i l = AreAlike l.text.items (take l.i l.line) l.place
