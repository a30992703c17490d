use Rattle.std.proofs.Common.{◌≡◌, ◌++◌, map, drop, take, All}
use Rattle.serde_json.specs.View.{view}
use Rattle.refutation.specs.Ranges.{IsPairInRange}
use Rattle.refutation.specs.Writing.{pair_data}
use Rattle.refutation.proofs.writing.pairs_json.Given as goal

abbrev pub invariant-loop-pair : goal.invariant-loop-pair
invariant-loop-pair l = record {
  written : map view l.list.items ++ map pair_data (drop l.pair-index l.pairs) ≡ map pair_data l.pairs;
  ranges : All IsPairInRange (take l.pair-index l.pairs);
}
