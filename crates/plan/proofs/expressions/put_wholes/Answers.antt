use Rattle.std.proofs.Common.{◌≡◌, subst, MatchOption}
use Rattle.serde_json.specs.Data.{no_items, item}
use Rattle.quorum_expr.specs.Common.{items_at, or_none, data_of}
use Rattle.plan.proofs.Copied.{begun, one_copied, ended}
use Rattle.plan.proofs.Putting.{then_put}
use Rattle.plan.proofs.expressions.put_wholes.Goals as goal

pub loop-item-init : goal.loop-item-init
loop-item-init c = begun (data_of c.args.node.now) c.args.writer.now c.open_array.new.writer (or_none (items_at c.in_ok-rest.rest.items)) c.in_ok-rest.ensures c.in_ok-open_array.ensures

pub loop-item-preserved : goal.loop-item-preserved
loop-item-preserved c = one_copied _ (data_of c.in-Some.item) _ _ _ _ _ c.loop-item.invariant c.in-Some.ensures c.in_ok-put_whole.ensures

pub returns : goal.returns
returns c =
    let none = subst (λ r. MatchOption r (or_none (items_at c.loop-item.rest.items) ≡ no_items) (λ n. or_none (items_at c.loop-item.rest.items) ≡ item (data_of n) (or_none (items_at c.next.new.rest.items)))) c.in_default.is c.next.ensures in
    then_put c.close_array.result c.close_array.ensures (λ t. ended _ _ _ _ _ c.loop-item.invariant none t)
