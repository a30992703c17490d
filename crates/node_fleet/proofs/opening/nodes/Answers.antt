use Rattle.std.proofs.Common.{◌≡◌, ◌*◌, ℕ, length, sym, ap, ◌∙◌, subst, rules}
use Rattle.std.specs.Arc.{arc_value}
use Rattle.volume_model.specs.Common.{Plan}
use Rattle.plan.specs.Common.{checked_model, plan_data}
use Rattle.plan.specs.declared.checked.CheckedPlan.{CheckedPlan}
use Rattle.world.proofs.Low.{is_low}
use Rattle.world.proofs.Steps.{LowFor}
use Rattle.node_fleet.proofs.Homes.{has_nodes}
use Rattle.node_fleet.proofs.opening.nodes.Goals as goal

pub returns-clause-each : goal.returns-clause-each
returns-clause-each g c =
    let plan : Plan = g.L.Site.plan in
    let made = c.loop-slot.made in
    let groups : c.groups.result ≡ plan.groups = c.groups.ensures.groups ∙ ap (λ (p : CheckedPlan). (checked_model p).groups) c.deref.ensures ∙ ap (λ (p : Plan). p.groups) c.requires.plan in
    let all : length made.items ≡ c.groups.result * 64 = sym made.ok.0 ∙ search rules in
    let low : LowFor plan = subst LowFor c.requires.plan (λ group member h. is_low (plan_data (arc_value c.args.plan.now).plan) group member h) in
    has_nodes plan made.items (all ∙ ap (λ (n : ℕ). n * 64) groups) low c.loop-slot.invariant.homes
