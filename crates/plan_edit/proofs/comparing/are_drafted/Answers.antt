use Rattle.std.proofs.Common.{◌≤◌, length, ◌∙◌, arith}
use Rattle.plan.specs.Common.{configuration_data}
use Rattle.plan_edit.specs.Drafts.{bare, draft_data, uncertified}
use Rattle.plan_edit.proofs.Behind.{map-twice, same-done}
use Rattle.plan_edit.proofs.comparing.are_drafted.Goals as goal

pub returns : goal.returns
returns c =
    let drafts = c.args.drafts.now in
    let new = c.args.new.now in
    let i = c.loop-i.i in
    let here : length new ≤ i = omega arith in
    let there : length drafts ≤ i = omega arith in
    λ _. map-twice uncertified configuration_data new ∙ c.loop-i.invariant (same-done bare draft_data new drafts i here there)
