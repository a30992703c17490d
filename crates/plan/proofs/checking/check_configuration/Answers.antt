use Rattle.std.proofs.Common.{◌<◌, ◌∙◌, length, ap, sym, subst, map, get_or, arith}
use Rattle.plan.specs.Plan.{configuration_data}
use Rattle.plan.specs.PlanData.{no_configuration}
use Rattle.plan.proofs.Lookups.{item-at}
use Rattle.plan.proofs.Found.{shape-found, meets-found, root-found, step-found, parent-below}
use Rattle.plan.proofs.checking.check_configuration.Goals as goal
use Rattle.std.proofs.lemmas.Grind.{common_steps}
use Rattle.std.proofs.Common.{rules}

pub returns-in-Some : goal.returns-in-Some
returns-in-Some c = search (rules, c.requires, c.index-configurations-from.is, c.from.ensures, c.in_ok-check_shape.ensures, c.in-Some.is, c.index-configurations-parent.is, c.in_ok-check_meets.ensures, c.check_step.ensures, item-at, parent-below, step-found)

pub returns-in_err-check_shape : goal.returns-in_err-check_shape
returns-in_err-check_shape c = shape-found c.args.group c.args.configuration (map configuration_data c.args.configurations.now) c.from_residual.result _ c.in_err-check_shape.ensures c.from_residual.ensures.1

pub returns-in_err-check_meets : goal.returns-in_err-check_meets
returns-in_err-check_meets c = search (rules, c.requires, c.index-configurations-from.is, c.from.ensures, c.in_ok-check_shape.ensures, c.in_err-check_meets.ensures, c.from_residual-in_err-check_meets.ensures.1, meets-found, item-at)

pub returns-in-None : goal.returns-in-None
returns-in-None c =
    root-found c.args.group c.args.configuration (map configuration_data c.args.configurations.now) (configuration_data c.index-configurations-from.result)
    (item-at configuration_data c.args.configurations.now c.args.configuration c.index-configurations-from.result no_configuration c.requires (c.index-configurations-from.is ∙ ap (λ i. get_or c.args.configurations.now i c.index-configurations-from.result) c.from.ensures))
    c.in-None.is c.in_ok-check_shape.ensures c.in_ok-check_meets.ensures

pub bounds-configurations-from : goal.bounds-configurations-from
bounds-configurations-from c = subst (λ n. n < length c.args.configurations.now) (sym c.from.ensures) c.requires

pub bounds-configurations-parent : goal.bounds-configurations-parent
bounds-configurations-parent c = grind (arith, common_steps)
