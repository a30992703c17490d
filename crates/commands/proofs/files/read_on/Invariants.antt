-- The last answer is that of all reads so far.
use Rattle.std.proofs.Common.{◌≡◌, length, OnErr}
use Rattle.std.specs.Io.{ReadsAtMost}
use Rattle.std.specs.Io.KnownBytes.{ReadConsumes}
use Rattle.commands.specs.Failures.{ReadFails}
use Rattle.commands.proofs.files.read_on.Given as goal

abbrev pub invariant-loop : goal.invariant-loop
invariant-loop g l =
    (length l.buf ≡ length l.fn.buf) × ReadsAtMost l.last l.buf × ReadConsumes (g.R.Read.remaining l.fn.reader) (g.R.Read.remaining l.reader) l.last l.buf × OnErr l.last (ReadFails g.R.FallibleRead.answers)
