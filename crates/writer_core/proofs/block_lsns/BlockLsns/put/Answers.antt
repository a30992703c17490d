use Rattle.std.proofs.Common.{◌%◌, ◌<◌, length, arith}
use Rattle.std.proofs.lemmas.Result.{IfOk-weaker}
use Rattle.writer_core.specs.declared.block_lsns.TheConstants.{TREES}
use Rattle.writer_core.specs.BlockLsns.{kept_in}
use Rattle.writer_core.proofs.Trees.{puts-in_tree}
use Rattle.writer_core.proofs.block_lsns.BlockLsns.put.Goals as goal

pub returns-clause-ok : goal.returns-clause-ok
returns-clause-ok c =
    let trees = c.make_trees.new.self.trees.items in
    let block = c.args.place.0 in
    let within : block % TREES < length trees = omega (arith, c.in_ok-make_trees.ensures.full) in
    IfOk-weaker c.put_in.result _ _
    (λ _. puts-in_tree trees TREES c.args.place.1 block c.args.lsn (kept_in c.args.self.now) c.index_mut.result.now c.put_in.new.tree c.in_ok-make_trees.ensures.same within c.index_mut.ensures.value)
    c.put_in.ensures.ok
