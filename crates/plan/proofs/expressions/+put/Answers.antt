use Rattle.std.proofs.Common.{refl, codes}
use Rattle.serde_json.specs.Data.{no_members, member}
use Rattle.quorum_expr.specs.Common.{data_of}
use Rattle.plan.proofs.Copied.{one_copied, ended}
use Rattle.plan.proofs.Putting.{then_put, opened, one_more}
use Rattle.plan.proofs.expressions.+put.Goals as goal
use Rattle.std.proofs.Common.{rules}

pub put_children-children-preserved : goal.put_children-children-preserved
put_children-children-preserved t c = one_copied _ (data_of c.in-Some-next.item) _ _ _ _ _ c.children.invariant c.in-Some-next.ensures c.in_ok-put_within.ensures

pub put_children-returns : goal.put_children-returns
put_children-returns t c = then_put c.close_array.result c.close_array.ensures (λ e. ended _ _ _ _ _ c.children.invariant c.in_default-next.ensures e)

pub put_within-returns : goal.put_within-returns
put_within-returns t c =
    let start = c.args.writer.now in
    let k = data_of c.in_ok-k.k in
    let of = data_of c.in_ok-of.of in
    let none = opened start c.open_object.new.writer c.in_ok-open_object.ensures in
    let one = one_more no_members (codes "k") k start c.open_object.new.writer c.put_whole-2.new.writer refl none (record { between = c.put_key.new.writer; key = c.in_ok-put_key.ensures; value = c.in_ok-put_whole.ensures }) in
    let two = one_more (member (codes "k") k no_members) (codes "of") of start c.put_whole-2.new.writer c.put_children.new.writer refl one (record { between = c.put_key-2.new.writer; key = c.in_ok-put_key-2.ensures; value = c.in_ok-put_children.ensures }) in
    search (rules, c.close_threshold.ensures, c.in_ok-k.ensures, c.in_ok-of.ensures, c.in_ok-keys.ensures, then_put)
