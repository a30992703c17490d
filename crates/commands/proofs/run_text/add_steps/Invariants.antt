use Rattle.std.proofs.Common.{string_bytes}
use Rattle.commands.proofs.Printing.{IsLineResult}
use Rattle.commands.proofs.run_text.add_steps.Given as goal

abbrev pub invariant-loop-step : goal.invariant-loop-step
invariant-loop-step l = IsLineResult l.steps l.results l.left l.step-index (string_bytes l.initial.text) (string_bytes l.text)
