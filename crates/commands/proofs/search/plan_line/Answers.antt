use Rattle.std.proofs.Common.{map, option_map}
use Rattle.refutation.specs.Common.{certificate_rule}
use Rattle.plan.specs.Common.{rewritten}
use Rattle.commands.proofs.Searching.{ok_and}
use Rattle.commands.proofs.search.plan_line.Goals as goal

pub returns-in_ok-push-in-Ok-clause-line : goal.returns-in_ok-push-in-Ok-clause-line
returns-in_ok-push-in-Ok-clause-line c =
    let plan = ok_and (rewritten c.args.text.now (map (option_map certificate_rule) c.args.certificates.now)) _ c.in-Ok.ensures.written in
    (plan.0, plan.1, record { text = c.in-Ok.line.items; spelled = plan.2; compact = c.in-Ok.ensures.compact; kept = c.in-Ok.ensures.kept; line_is = c.in_ok-push-in-Ok.ensures.items })
