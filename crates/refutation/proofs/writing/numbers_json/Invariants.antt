use Rattle.std.proofs.Common.{◌≡◌, ◌≤◌, ◌++◌, map, drop, take, All}
use Rattle.serde_json.specs.View.{view}
use Rattle.refutation.specs.Writing.{number_data}
use Rattle.refutation.proofs.writing.numbers_json.Given as goal

abbrev pub invariant-loop-number : goal.invariant-loop-number
invariant-loop-number l = record {
  written : map view l.list.items ++ map number_data (drop l.number-index l.numbers) ≡ map number_data l.numbers;
  ranges : All (λ n. n ≤ 255) (take l.number-index l.numbers);
}
