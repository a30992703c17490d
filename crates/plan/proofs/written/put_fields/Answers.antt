use Rattle.std.proofs.Common.{refl, subst, codes}
use Rattle.serde_json.specs.Data.{no_members}
use Rattle.quorum_expr.specs.Common.{data_of}
use Rattle.plan.specs.Rewriting.{value_or_null, meets_value, step_value}
use Rattle.plan.specs.TextForms.{fields_data}
use Rattle.plan.specs.Certificates.{certificate_values}
use Rattle.plan.specs.Puts.{Puts}
use Rattle.plan.proofs.Putting.{then_put, opened, one_more, closed}
use Rattle.plan.proofs.written.put_fields.Goals as goal

pub returns : goal.returns
returns c =
    let f = fields_data data_of c.args.fields.now in
    let cs = certificate_values c.args.certificates.now in
    let start = c.args.writer.now in
    let meets = subst (λ p. Puts (value_or_null cs p) c.put_key-2.new.writer c.put_certificate_at.new.writer) c.saturating_sub.ensures c.in_ok-put_certificate_at.ensures in
    let none = opened start c.open_object.new.writer c.in_ok-open_object.ensures in
    let m1 = one_more no_members (codes "full") f.full start c.open_object.new.writer c.put_wholes.new.writer refl none (record { between = c.put_key.new.writer; key = c.in_ok-put_key.ensures; value = c.in_ok-put_wholes.ensures }) in
    let m2 = one_more _ (codes "meets") (meets_value c.args.number cs) start c.put_wholes.new.writer c.put_certificate_at.new.writer refl m1 (record { between = c.put_key-2.new.writer; key = c.in_ok-put_key-2.ensures; value = meets }) in
    let m3 = one_more _ (codes "members") f.members start c.put_certificate_at.new.writer c.put_wholes-2.new.writer refl m2 (record { between = c.put_key-3.new.writer; key = c.in_ok-put_key-3.ensures; value = c.in_ok-put_wholes-2.ensures }) in
    let m4 = one_more _ (codes "parent") f.parent start c.put_wholes-2.new.writer c.put_whole_or_null.new.writer refl m3 (record { between = c.put_key-4.new.writer; key = c.in_ok-put_key-4.ensures; value = c.in_ok-put_whole_or_null.ensures }) in
    let m5 = one_more _ (codes "read") f.read start c.put_whole_or_null.new.writer c.put_expression.new.writer refl m4 (record { between = c.put_key-5.new.writer; key = c.in_ok-put_key-5.ensures; value = c.in_ok-put_expression.ensures }) in
    let m6 = one_more _ (codes "step") (step_value c.args.number cs) start c.put_expression.new.writer c.put_step.new.writer refl m5 (record { between = c.put_key-6.new.writer; key = c.in_ok-put_key-6.ensures; value = c.in_ok-put_step.ensures }) in
    let m7 = one_more _ (codes "write") f.write start c.put_step.new.writer c.put_expression-2.new.writer refl m6 (record { between = c.put_key-7.new.writer; key = c.in_ok-put_key-7.ensures; value = c.in_ok-put_expression-2.ensures }) in
    then_put c.close_object.result c.close_object.ensures (λ t. closed _ start c.put_expression-2.new.writer c.close_object.new.writer m7 t)
