use Rattle.std.proofs.Common.{◌≡◌, flat_map, string_bytes}
use Rattle.commands.specs.ShownName.{shown_char}
use Rattle.commands.proofs.names.shown_name.Given as goal

abbrev pub invariant-loop-c : goal.invariant-loop-c
invariant-loop-c l = string_bytes l.text ≡ flat_map shown_char l.yielded
