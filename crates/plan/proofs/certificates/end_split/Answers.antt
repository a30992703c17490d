use Rattle.plan.proofs.PutRules.{member_and_end}
use Rattle.plan.proofs.Putting.{then_put}
use Rattle.plan.proofs.certificates.end_split.Goals as goal

pub returns : goal.returns
returns c = then_put c.close_object.result c.close_object.ensures (member_and_end _ _ c.args.writer.now c.put_text_at.new.writer c.close_object.new.writer c.in_ok-put_text_at.ensures)
