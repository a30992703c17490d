use Rattle.std.proofs.Common.{◌≡◌, ◌++◌, drop, map, string_bytes}
use Rattle.world.specs.Outcomes.{find_of}
use Rattle.commands.specs.RunText.{each_line, find_line}
use Rattle.commands.proofs.run_text.add_finds.Given as goal

abbrev pub invariant-loop-find : goal.invariant-loop-find
invariant-loop-find l = string_bytes l.initial.text ++ each_line find_line (map find_of l.finds) ≡ string_bytes l.text ++ each_line find_line (map find_of (drop l.find-index l.finds))
