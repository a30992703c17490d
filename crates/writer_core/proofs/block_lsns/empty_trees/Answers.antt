use Rattle.std.proofs.Common.{rules, ◌≡◌, ◌+◌, ◌∙◌, ◌++◌, ◌∷◌, ℕ, [], None, length, ap, arith, unwrap_or}
use Rattle.std.proofs.lemmas.List.{length_push}
use Rattle.std.specs.BTreeMap.{get}
use Rattle.writer_core.specs.Kept.{block_cmp}
use Rattle.writer_core.proofs.Trees.{none_more}
use Rattle.writer_core.proofs.block_lsns.empty_trees.Goals as goal

pub loop-alloc-preserved : goal.loop-alloc-preserved
loop-alloc-preserved c =
    let inv = c.loop-alloc.invariant in
    let none : (q b : ℕ) → get block_cmp c.new.result (b, q) ≡ None = λ q b. search rules in
    let more : c.push_reserved.new.self.items ≡ c.loop-alloc.trees.items ++ c.new.result ∷ [] = search rules in
    let counted : length c.push_reserved.new.self.items ≡ length c.loop-alloc.trees.items + 1 = ap length more ∙ length_push c.loop-alloc.trees.items c.new.result in
    record {
      counted = omega (arith, c.loop-alloc-test.true);
      roomy = search rules;
      empty = λ i q b. none_more c.push_reserved.new.self.items c.loop-alloc.trees.items c.new.result more (λ p d. ap (λ it. unwrap_or it 0) (none p d)) inv.empty i q b;
    }
