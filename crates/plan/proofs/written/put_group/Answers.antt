use Rattle.std.proofs.Common.{refl, codes}
use Rattle.serde_json.specs.Data.{no_members}
use Rattle.plan.proofs.Made.{made-whole}
use Rattle.plan.proofs.Putting.{then_put, opened, one_more, closed}
use Rattle.plan.proofs.written.put_group.Goals as goal
use Rattle.std.proofs.Common.{rules}

pub returns : goal.returns
returns c =
    let p = c.in_ok-put_configurations.ensures in
    let start = c.args.writer.now in
    let none = opened start c.open_object.new.writer c.in_ok-open_object.ensures in
    let one = one_more no_members (codes "configurations") p.value start c.open_object.new.writer c.put_configurations.new.writer refl none (record { between = c.put_key.new.writer; key = c.in_ok-put_key.ensures; value = p.puts }) in
    search (rules, c.close_object.ensures, then_put, made-whole, closed)
