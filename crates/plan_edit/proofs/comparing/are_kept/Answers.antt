use Rattle.std.proofs.Common.{◌≤◌, length, sym, ◌∙◌, arith}
use Rattle.plan.specs.Common.{configuration_data}
use Rattle.plan_edit.specs.Drafts.{bare, uncertified}
use Rattle.plan_edit.proofs.Behind.{map-twice, same-done}
use Rattle.plan_edit.proofs.comparing.are_kept.Goals as goal

pub returns : goal.returns
returns c =
    let old = c.args.old.now in
    let new = c.args.new.now in
    let i = c.loop-i.i in
    let here : length new ≤ i = omega arith in
    let there : length old ≤ i = omega arith in
    λ _. map-twice uncertified configuration_data new ∙ c.loop-i.invariant (same-done bare bare new old i here there) ∙ sym (map-twice uncertified configuration_data old)
