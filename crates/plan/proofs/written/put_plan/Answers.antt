use Rattle.std.proofs.Common.{subst, codes}
use Rattle.quorum_expr.specs.Common.{data_of}
use Rattle.plan.specs.TextForms.{header_data}
use Rattle.refutation.specs.Common.{number_data}
use Rattle.plan.specs.Certificates.{certificate_values}
use Rattle.plan.specs.Puts.{PutsMember}
use Rattle.plan.proofs.Made.{made-plan, plan-put}
use Rattle.plan.proofs.Putting.{then_put, opened}
use Rattle.plan.proofs.written.put_plan.Goals as goal

pub returns : goal.returns
returns c =
    let h = header_data data_of c.in-Ok.header in
    let p = c.in_ok-put_groups.ensures in
    let start = c.args.writer.now in
    let born = c.in_ok-put_born.ensures start (opened start c.open_object.new.writer c.in_ok-open_object.ensures) in
    let format = subst (λ n. PutsMember (codes "format") (number_data n) c.put_born.new.writer c.put_number_at.new.writer) c.number.ensures c.in_ok-put_number_at.ensures in
    let groups : PutsMember (codes "groups") p.value c.put_number_at.new.writer c.put_groups.new.writer = record { between = c.put_key.new.writer; key = c.in_ok-put_key.ensures; value = p.puts } in
    let lal = c.in_ok-put_number_at-2.ensures in
    then_put c.close_object.result c.close_object.ensures
    (λ t. record {
      value = _;
      is = made-plan (data_of c.args.node.now) h (certificate_values c.args.certificates.now) p.value c.in-Ok.ensures.read p.is;
      puts = plan-put h.format h.lal h.born p.value start c.put_born.new.writer c.put_number_at.new.writer c.put_groups.new.writer c.put_number_at-2.new.writer c.close_object.new.writer born format groups lal t;
    })
