use Rattle.std.proofs.Common.{◌≡◌, ◌-◌, ◌<◌, ℕ}
use Rattle.cert_search.specs.Dealing.{names_in, row_plain, fresh_part, IsFilled, SameDeques}
use Rattle.cert_search.proofs.Lents.{IsLentTo}
use Rattle.cert_search.proofs.table.Table.row.Given as goal

abbrev pub invariant-loop-k : goal.invariant-loop-k
invariant-loop-k l = record {
  workers : l.self.workers ≡ l.initial.self.workers;
  same : SameDeques l.initial.self.owns.items l.self.owns.items;
  lent : (below : l.which < l.initial.self.workers) → IsLentTo l.initial.self.workers l.which below l.k l.initial.self.owns.items l.self.owns.items;
  row : (claims : ℕ) → IsFilled claims l.initial.self.workers l.initial.self.owns.items → row_plain l.row.items ≡ fresh_part (names_in l.initial.self.owns.items) claims l.initial.self.workers l.which (l.k - 1);
}
