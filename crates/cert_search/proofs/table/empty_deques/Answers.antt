use Rattle.std.proofs.Common.{◌≡◌, ap, ◌∙◌, map, zero-add}
use Rattle.cert_search.specs.Dealing.{own_view, open_deque}
use Rattle.cert_search.proofs.Tables.{range_push}
use Rattle.cert_search.proofs.table.empty_deques.Goals as goal

pub loop-which-preserved : goal.loop-which-preserved
loop-which-preserved c =
    let open_at = open_deque c.args.workers 0 in
    let which = c.loop-which.which in
    let is : own_view c.in_ok-new.field-0 ≡ open_at which = λ i. (c.in_ok-new.ensures.0 i, c.in_ok-new.ensures.1 i) in
    ap (map own_view) c.in_ok-push.ensures.items
    ∙ range_push own_view open_at 0 which c.loop-which.owns.items c.in_ok-new.field-0 c.loop-which.invariant (rw zero-add is)
