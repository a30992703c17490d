use Rattle.std.proofs.Common.{subst, codes}
use Rattle.serde_json.specs.Data.{array}
use Rattle.refutation.specs.Common.{number_data, pairs_data}
use Rattle.plan.specs.Puts.{PutsMember}
use Rattle.plan.proofs.PutRules.{match_opens, with_value, with_key}
use Rattle.plan.proofs.Putting.{then_put}
use Rattle.plan.proofs.certificates.begin_match.Goals as goal

pub returns : goal.returns
returns c =
    then_put c.put_key-2.result c.put_key-2.ensures
    (with_key _ (codes "then") c.args.writer.now c.put_text_at.new.writer c.put_key-2.new.writer
    (match_opens c.args.left c.args.right c.args.pairs.now c.args.writer.now c.open_object.new.writer c.put_number_at.new.writer c.put_pairs.new.writer c.put_number_at-2.new.writer c.put_text_at.new.writer
    c.in_ok-open_object.ensures
    (subst (λ n. PutsMember (codes "left") (number_data n) c.open_object.new.writer c.put_number_at.new.writer) c.from.ensures c.in_ok-put_number_at.ensures)
    (with_value (codes "pairs") (array (pairs_data c.args.pairs.now)) c.put_number_at.new.writer c.put_key.new.writer c.put_pairs.new.writer c.in_ok-put_key.ensures c.in_ok-put_pairs.ensures)
    (subst (λ n. PutsMember (codes "right") (number_data n) c.put_pairs.new.writer c.put_number_at-2.new.writer) c.from-2.ensures c.in_ok-put_number_at-2.ensures) c.in_ok-put_text_at.ensures))
