use Rattle.std.proofs.Common.{◌≡◌, length, arith}
use Rattle.plan_edit.proofs.Rooted.{rooted}
use Rattle.plan_edit.proofs.new_checking.has_root.Goals as goal

pub returns : goal.returns
returns c =
    let one : length c.args.configurations.now ≡ 1 = omega arith in
    rooted c.is_root.result c.args.words.now c.args.configurations.now c.index-configurations-0.result one c.index-configurations-0.is c.is_root.ensures
