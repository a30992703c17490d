use Rattle.std.proofs.Common.{get_or, false, refl, string_bytes}
use Rattle.std.specs.Option.{option_copied}
use Rattle.commands.proofs.Printing.{prints_more, prints_none}
use Rattle.drivers.specs.declared.reading.Step.{Step}
use Rattle.commands.proofs.run_text.add_steps.Goals as goal

pub loop-step-init : goal.loop-step-init
loop-step-init c = prints_none c.args.steps.now c.args.results.now (string_bytes c.args.text.now)

pub loop-step-preserved : goal.loop-step-preserved
loop-step-preserved c =
    let none : Step = record { line = 0; has_event = false } in
    let i = c.loop-step.step-index in
    prints_more c.args.steps.now c.args.results.now c.loop-step.left.now c.first_result.result.1.now i (get_or c.args.steps.now i none) none (option_copied c.first_result.result.0)
    (string_bytes c.args.text.now) (string_bytes c.loop-step.text) (string_bytes c.add_step.new.text)
    c.loop-step.invariant c.loop-step-test.true refl c.first_result.ensures.first c.first_result.ensures.rest c.in_ok-add_step.ensures
