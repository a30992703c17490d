use Rattle.std.proofs.Common.{◌≡◌, ◌∙◌, ap, rules, string_bytes}
use Rattle.commands.specs.Answer.{printed}
use Rattle.commands.specs.FaultQuery.AnswersNumber.{known}
use Rattle.commands.proofs.fault_query.explain_number.Goals as goal

pub returns : goal.returns
returns c =
    let written = c.in_ok-lines.ensures in
    let same : c.into_bytes.result.items ≡ string_bytes c.in_ok-lines.lines = search rules in
    known c.in-Some.entry.now.fault c.in-Some.ensures written.0 (c.printed.ensures ∙ ap (printed 0) (same ∙ written.1))
