use Rattle.std.proofs.Common.{◌≡◌, ◌++◌, drop, map, string_bytes}
use Rattle.world.specs.Outcomes.{opened_of}
use Rattle.commands.specs.RunText.{each_line, writer_line}
use Rattle.commands.proofs.run_text.add_writers.Given as goal

abbrev pub invariant-loop-writer : goal.invariant-loop-writer
invariant-loop-writer l = string_bytes l.initial.text ++ each_line writer_line (map opened_of l.writers) ≡ string_bytes l.text ++ each_line writer_line (map opened_of (drop l.writer-index l.writers))
