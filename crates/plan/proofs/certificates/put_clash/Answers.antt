use Rattle.std.proofs.Common.{subst, codes}
use Rattle.refutation.specs.Common.{number_data}
use Rattle.plan.specs.Puts.{PutsMember}
use Rattle.plan.proofs.PutRules.{items_open}
use Rattle.plan.proofs.Putting.{then_put, closed}
use Rattle.plan.proofs.certificates.put_clash.Goals as goal

pub returns : goal.returns
returns c =
    then_put c.close_object.result c.close_object.ensures
    (closed _ c.args.writer.now c.put_text_at.new.writer c.close_object.new.writer
    (items_open (codes "clash") c.args.left c.args.right c.args.writer.now c.open_object.new.writer c.put_number_at.new.writer c.put_number_at-2.new.writer c.put_text_at.new.writer
    c.in_ok-open_object.ensures (subst (λ n. PutsMember (codes "left") (number_data n) c.open_object.new.writer c.put_number_at.new.writer) c.from.ensures c.in_ok-put_number_at.ensures)
    (subst (λ n. PutsMember (codes "right") (number_data n) c.put_number_at.new.writer c.put_number_at-2.new.writer) c.from-2.ensures c.in_ok-put_number_at-2.ensures) c.in_ok-put_text_at.ensures))
