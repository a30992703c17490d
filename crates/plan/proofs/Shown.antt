-- The configuration that a lookup gives is the one that the model has there.
use Rattle.std.proofs.Common.{◌≡◌, ℕ, ◌<◌, List, length, get_or, map, arith, ap, ◌∙◌, sym, Option, Some, None}
use Rattle.std.specs.Borrow.{Bor}
use Rattle.std.specs.Slice.{IsItemAt}
use Rattle.std.proofs.lemmas.List.{length-map}
use Rattle.volume_model.specs.Common.{listed}
use Rattle.plan.specs.declared.configurations.Configuration.{Configuration}
use Rattle.plan.specs.declared.configurations.Group.{Group}
use Rattle.plan.specs.declared.configurations.Plan.{Plan}
use Rattle.plan.specs.CheckedModel.{ShowsConfiguration}
use Rattle.plan.specs.PlanData.{configuration_at, group_at, model_of, or_zero}
use Rattle.plan.specs.Plan.{configuration_data, group_data, plan_data}
use Rattle.plan.proofs.Named.{group-is}
use Rattle.std.proofs.lemmas.Grind.{common_steps}

pub shows-at : (plan : Plan) (gs : List Group) (i g : ℕ) (x : Group) (cs : List Configuration) (j k : ℕ) (r : Option (Bor Configuration)) → gs ≡ plan.groups.items → i ≡ g → i < length gs → x ≡ get_or gs i x → cs ≡ x.configurations.items → j ≡ k → IsItemAt cs j r → ShowsConfiguration r (model_of (plan_data plan)) g k
shows-at plan gs i g x cs j k None same is h at all number item = grind (arith, common_steps)
shows-at plan gs i g x cs j k (Some y) same is h at all number item =
    let there : group_at (plan_data plan) g ≡ group_data x = group-is plan gs i g x same is h at in
    let many : length (group_at (plan_data plan) g) ≡ length cs = ap length there ∙ length-map x.configurations.items configuration_data ∙ ap length (sym all) in
    let below : j < length cs = item.3.0 in
    let here : configuration_at (group_at (plan_data plan) g) k ≡ configuration_data y.now = grind (arith, common_steps) in
    let inside : g < length (map group_data plan.groups.items) = omega (arith, length-map plan.groups.items group_data, ap length same) in
    let within : k < length (group_at (plan_data plan) g) = omega (arith, many, below, number) in (
      inside,
      within,
      record {
        parent = ap (λ d. or_zero d.parent) (sym here);
        members = ap (λ d. listed d.members) (sym here);
        full = ap (λ d. listed d.full) (sym here);
        read = ap (λ d. d.read) (sym here);
        write = ap (λ d. d.write) (sym here);
      },
    )
