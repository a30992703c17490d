use Rattle.std.proofs.lemmas.Result.{IfOk-weaker}
use Rattle.plan_edit.specs.NewPlans.{IsNew}
use Rattle.plan_edit.specs.Requests.{IsRequested}
use Rattle.plan_edit.proofs.requests.requested_plan.Goals as goal

pub returns : goal.returns
returns g c =
    IfOk-weaker c.new_plan.result (λ line. IsNew c.in_ok-words.words line.items) (λ line. IsRequested c.args.request.now line.items)
    (λ line is. record { words = c.in_ok-words.words; meant = c.in_ok-words.ensures; is_new = is }) c.new_plan.ensures
