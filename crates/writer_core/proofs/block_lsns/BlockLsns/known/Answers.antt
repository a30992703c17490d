use Rattle.std.proofs.Common.{◌≡◌, ◌≢◌, ◌∙◌, ◌%◌, ◌<◌, length, arith, sym}
use Rattle.std.proofs.lemmas.Bool.Decides.{nat_tests}
use Rattle.writer_core.specs.declared.block_lsns.TheConstants.{TREES}
use Rattle.writer_core.proofs.Trees.{in_tree}
use Rattle.writer_core.proofs.block_lsns.BlockLsns.known.Goals as goal

pub returns : goal.returns
returns c =
    let trees = c.args.self.now.trees.items in
    let some : length trees ≢ 0 = grind (arith, nat_tests) in
    let full : length trees ≡ TREES = c.args.self.now.full some in
    let within : c.args.place.0 % TREES < length trees = omega (arith, full) in
    c.known_in.ensures ∙ sym (in_tree trees (c.args.place.0 % TREES) c.args.place.1 c.args.place.0 c.index.result.now within c.index.ensures)
