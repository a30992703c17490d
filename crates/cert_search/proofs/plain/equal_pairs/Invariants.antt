use Rattle.std.proofs.Common.{◌≡◌, ◌≤◌, ◌++◌, drop, length}
use Rattle.quorum_expr.specs.Common.{formulas_of}
use Rattle.cert_search.specs.Plain.{equal_pairs}
use Rattle.cert_search.proofs.plain.equal_pairs.Given as goal

-- the pairs so far, and those of what is left
abbrev pub invariant-loop-i : goal.invariant-loop-i
invariant-loop-i g l = record {
  pairs : equal_pairs 0 (formulas_of l.of) (formulas_of l.others) ≡ l.pairs.items ++ equal_pairs l.i (formulas_of (drop l.i l.of)) (formulas_of l.others);
  few : length l.pairs.items ≤ l.i;
}
