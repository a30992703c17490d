use Rattle.std.proofs.Common.{◌≡◌, ◌∙◌, ◌*◌, ◌-◌, arith}
use Rattle.std.proofs.lemmas.Result.{IfOk-weaker}
use Rattle.plan.specs.Common.{checked_model, sum_below}
use Rattle.commands.proofs.Printing.{same_counts}
use Rattle.commands.proofs.run_text.checked_line.Goals as goal

pub returns : goal.returns
returns c =
    let plan = checked_model c.args.plan.now in
    let count = sum_below plan.configurations plan.groups in
    let groups : c.from-groups.result ≡ plan.groups = omega arith in
    let certificates : c.saturating_sub-certificates.result ≡ 2 * count - plan.groups = omega arith in
    IfOk-weaker c.counts_line.result _ _ (λ t h. h ∙ same_counts groups c.configurations-configurations.ensures.counted certificates) c.counts_line.ensures
