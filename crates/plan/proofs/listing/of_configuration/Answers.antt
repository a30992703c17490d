use Rattle.std.proofs.Common.{◌<◌, length, sym, subst, map, arith, Ok}
use Rattle.plan.specs.Plan.{configuration_data}
use Rattle.plan.specs.LentClaims.{all_lent}
use Rattle.plan.proofs.Lookups.{item-at}
use Rattle.plan.proofs.Found.{parent-below}
use Rattle.plan.proofs.Listed.{shape-refused, wants, child-claims, two-pushed}
use Rattle.plan.proofs.listing.of_configuration.Goals as goal
use Rattle.std.proofs.lemmas.Grind.{common_steps}
use Rattle.std.proofs.Common.{rules}

pub returns : goal.returns
returns c = search (rules, c.requires, c.index-configurations-from.is, c.from.ensures, c.in_ok-check_shape.ensures, c.in-Some.is, c.index-configurations-parent.is, c.new-list.ensures.items, c.in_ok-push.ensures.items, c.in_ok-push-2.ensures.items, item-at, parent-below, child-claims, Ok, two-pushed)

pub returns-in_err-check_shape : goal.returns-in_err-check_shape
returns-in_err-check_shape c = shape-refused (λ v. all_lent v.items) c.args.group c.args.configuration (map configuration_data c.args.configurations.now) c.from_residual.result _ c.in_err-check_shape.ensures c.from_residual.ensures.1

pub returns-in_err-push : goal.returns-in_err-push
returns-in_err-push c = wants (λ v. all_lent v.items) c.from_residual-in_err-push.result _ c.from_residual-in_err-push.ensures.1

pub returns-in_err-push-2 : goal.returns-in_err-push-2
returns-in_err-push-2 c = wants (λ v. all_lent v.items) c.from_residual-in_err-push-2.result _ c.from_residual-in_err-push-2.ensures.1

pub bounds-configurations-from : goal.bounds-configurations-from
bounds-configurations-from c = subst (λ n. n < length c.args.configurations.now) (sym c.from.ensures) c.requires

pub bounds-configurations-parent : goal.bounds-configurations-parent
bounds-configurations-parent c = grind (arith, common_steps)
