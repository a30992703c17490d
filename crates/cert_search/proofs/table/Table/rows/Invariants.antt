use Rattle.std.proofs.Common.{◌≡◌, ℕ, map, vec_len}
use Rattle.cert_search.specs.Dealing.{names_in, row_plain, AreRows, IsFilled, SameDeques}
use Rattle.cert_search.proofs.Lents.{IsLentRows}
use Rattle.cert_search.proofs.table.Table.rows.Given as goal

abbrev pub invariant-loop-which : goal.invariant-loop-which
invariant-loop-which l = record {
  workers : l.self.workers ≡ l.initial.self.workers;
  same : SameDeques l.initial.self.owns.items l.self.owns.items;
  lent : IsLentRows l.initial.self.workers l.which l.self.owns.items;
  count : vec_len l.rows ≡ l.which;
  rows : (claims : ℕ) → IsFilled claims l.initial.self.workers l.initial.self.owns.items → AreRows (names_in l.initial.self.owns.items) claims l.initial.self.workers l.which (map (λ row. row_plain row.items) l.rows.items);
}
