use Rattle.std.proofs.Common.{◌≡◌, ◌∙◌, rules, string_bytes, subst, sym}
use Rattle.plan.specs.Common.{plan_data}
use Rattle.commands.specs.Explains.{ExplainsTo}
use Rattle.commands.proofs.ExplainedPlans.{explains_checked, explains_no}
use Rattle.commands.proofs.explaining.explained_plan.Goals as goal

pub returns-in_ok-push_str-in-Ok-clause-reply : goal.returns-in_ok-push_str-in-Ok-clause-reply
returns-in_ok-push_str-in-Ok-clause-reply c spelled =
    let same : c.into_bytes.result.items ≡ string_bytes c.push_str.new.self = search rules in
    subst (ExplainsTo c.args.text.now) (sym c.printed.ensures)
    (explains_checked c.args.text.now (string_bytes c.in_ok-lines.lines) (string_bytes c.in_ok-line-in-Ok.line) c.as_str.result.now c.into_bytes.result.items c.args.plan c.in-Ok.plan spelled c.in-Ok.ensures.plan c.in-Ok.ensures.faultless c.in-Ok.ensures.certified
    c.in_ok-line-in-Ok.ensures c.as_str.ensures.value (same ∙ c.in_ok-push_str-in-Ok.ensures.bytes))

pub returns-in_ok-write-in-Err-clause-reply : goal.returns-in_ok-write-in-Err-clause-reply
returns-in_ok-write-in-Err-clause-reply c spelled =
    let same : c.into_bytes-in-Err.result.items ≡ string_bytes c.write.new.self = search rules in
    subst (ExplainsTo c.args.text.now) (sym c.printed-in-Err.ensures)
    (explains_no c.args.text.now (string_bytes c.in_ok-lines.lines) c.into_bytes-in-Err.result.items (plan_data c.args.plan) c.in-Err.stop spelled c.in-Err.ensures.stop (sym c.is_input.ensures ∙ c.if-is_input.false)
    (same ∙ c.in_ok-write-in-Err.ensures.bytes))
