-- The last answer is that of all writes so far.
use Rattle.std.specs.Io.{WritesAtMost}
use Rattle.std.specs.Io.KnownBytes.{WriteAppends}
use Rattle.commands.specs.Failures.{WasAnswered}
use Rattle.commands.proofs.outputs.write_on.Given as goal

abbrev pub invariant-loop : goal.invariant-loop
invariant-loop g l =
    WritesAtMost l.last l.bytes × WriteAppends (g.W.Write.contents l.fn.writer) (g.W.Write.contents l.writer) l.last l.bytes × WasAnswered g.W.FallibleWrite.answers l.bytes l.last
