use Rattle.std.proofs.Common.{◌∙◌, ap, ap₂}
use Rattle.std.proofs.lemmas.Result.{IfOk-weaker}
use Rattle.clap.specs.Words.{App, with_subcommand}
use Rattle.commands.proofs.subcommands.command_line.Goals as goal

pub returns : goal.returns
returns c =
    let top = λ (a : App). a.top in
    let one = c.in_ok-command.ensures ∙ ap₂ with_subcommand c.program-command.ensures (ap top c.in_ok-of_file.ensures.app) in
    let two = c.in_ok-command-2.ensures ∙ ap₂ with_subcommand one (ap top c.in_ok-of_script.ensures.app) in
    let three = c.in_ok-command-3.ensures ∙ ap₂ with_subcommand two (ap top c.in_ok-of_fleet.ensures.app) in
    let four = c.in_ok-command-4.ensures ∙ ap₂ with_subcommand three (ap top c.in_ok-of_search.ensures.app) in
    let five = c.in_ok-command-5.ensures ∙ ap₂ with_subcommand four (ap top c.in_ok-of_json.ensures.app) in
    let six = c.in_ok-command-6.ensures ∙ ap₂ with_subcommand five (ap top c.in_ok-of_replace.ensures.app) in
    let seven = c.in_ok-command-7.ensures ∙ ap₂ with_subcommand six (ap top c.in_ok-of_steps.ensures.app) in
    let eight = c.in_ok-command-8.ensures ∙ ap₂ with_subcommand seven (ap top c.in_ok-of_simulate.ensures.app) in
    let nine = c.in_ok-command-9.ensures ∙ ap₂ with_subcommand eight (ap top c.in_ok-of_new.ensures.app) in
    IfOk-weaker c.add-10.result _ _ (λ r h. h ∙ ap₂ with_subcommand nine (ap top c.in_ok-of_draw.ensures.app)) c.add-10.ensures
