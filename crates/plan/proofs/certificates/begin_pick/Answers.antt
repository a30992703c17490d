use Rattle.std.proofs.Common.{subst, codes}
use Rattle.serde_json.specs.Data.{array}
use Rattle.refutation.specs.Common.{number_data, numbers_data}
use Rattle.plan.specs.Puts.{PutsMember}
use Rattle.plan.proofs.PutRules.{pick_opens, with_value, with_key}
use Rattle.plan.proofs.Putting.{then_put}
use Rattle.plan.proofs.certificates.begin_pick.Goals as goal

pub returns : goal.returns
returns c =
    then_put c.put_key-2.result c.put_key-2.ensures
    (with_key _ (codes "then") c.args.writer.now c.put_side.new.writer c.put_key-2.new.writer
    (pick_opens c.args.side c.args.item c.args.children.now c.args.writer.now c.open_object.new.writer c.put_numbers.new.writer c.put_number_at.new.writer c.put_text_at.new.writer c.put_side.new.writer
    c.in_ok-open_object.ensures
    (with_value (codes "children") (array (numbers_data c.args.children.now)) c.open_object.new.writer c.put_key.new.writer c.put_numbers.new.writer c.in_ok-put_key.ensures c.in_ok-put_numbers.ensures)
    (subst (λ n. PutsMember (codes "item") (number_data n) c.put_numbers.new.writer c.put_number_at.new.writer) c.from.ensures c.in_ok-put_number_at.ensures) c.in_ok-put_text_at.ensures c.in_ok-put_side.ensures))
