use Rattle.std.proofs.Common.{◌≡◌, ◌+◌, [], ◌∷◌, All, vec_len}
use Rattle.board.specs.Shares.{first_of}
use Rattle.board.proofs.Board.new.Given as goal

abbrev pub invariant-loop : goal.invariant-loop
invariant-loop l = record {
  counted : vec_len l.made + 1 ≡ l.counter;
  dealt : l.last.me.0.0 + l.counter ≡ l.count;
  of_table : l.last.table_id ≡ l.table.shared.table_id;
  key : l.table.shared.key ≡ l.count;
  one_word : l.table.shared.table_id.words ≡ 1;
  no_slot : l.table.shared.table_id.slots ≡ 0;
  free : l.last.me.1 ≡ [];
  fresh : l.last.me.0.1 ≡ [] ∷ [];
  all_made : All (λ s. (s.seat.table_id ≡ l.table.shared.table_id) × (s.seat.me.1 ≡ []) × (first_of s.seat.me.0.1 ≡ [])) l.made.items;
}
