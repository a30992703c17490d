use Rattle.std.proofs.Common.{◌≡◌, All, [], vec_len}
use Rattle.node_fleet.proofs.mailboxes.without_seats.Given as goal

abbrev pub invariant-loop : goal.invariant-loop
invariant-loop l = record {
  count : vec_len l.made ≡ l.counter;
  none : All (λ s. s.seats.items ≡ []) l.made.items;
}
